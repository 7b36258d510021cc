-- The test of a record passes exactly where no condition of refusal 22 holds. Assumes nothing.
use mathlib.Core.Path.{◌≡◌, refl, sym}
use mathlib.Core.Bool.{Bool, true, false, not, ◌&&◌, ◌||◌}
use mathlib.Core.List.{List}
use mathlib.Core.Logic.{◌↔◌}
use Prim.Native.Nat.{ℕ, ◌≤◌, ◌<◌}
use native.Mathlib.Omega.{arith}
use lib.Dec.{ltb}
use lib.ListN.{get_or}
use borrow.Author.Tests.{ltb-true, ltb-false, leb-true, eqb-true, lt-ltb, le-ltb, le-leb, eq-eqb}
use Rattle.tropical_weight.specs.Limits.{node_limit}
use Rattle.std.specs.Prelude.{Option, None, Some}
use Rattle.state_order_queue.specs.declared.Queue.{Queue}
use Rattle.state_order_queue.specs.Queues.{ends_fit, ends_set, is_inside, flags_inside, is_valid}
use Rattle.state_order_queue.specs.Conditions.{Accepted}
use Rattle.sheet.proofs.Apart.{both}
use Rattle.state_order_queue.proofs.Flags.{both_true, implies_true, true_implies}
use Rattle.sheet.proofs.Below.{all_below-at, all_below-of}

pub none-at : {A : Type 0} {b : ℕ} → None ≡ Some b → A
none-at {A} {b} e = let z : ◌≡◌ {A = ℕ} 0 1 = cc in absurd (omega arith)

pub at_none : {A : Type 0} {b : ℕ} → Some b ≡ None → A
at_none e = none-at (sym e)

pub at_same : {b c : ℕ} → Some b ≡ Some c → b ≡ c
at_same {b} {c} e = cc

clear_of : (t : Bool) → not t || false ≡ true → t ≡ false
clear_of true h = sym h
clear_of false h = refl

either-of : (a b : Bool) → a || b ≡ true → a ≡ false → b ≡ true
either-of true b h k = cc
either-of false b h k = h

set-of : (front : ℕ) (back : Option ℕ) (flags : List Bool) → flags_inside front back flags ≡ true → (v : ℕ) → v < node_limit → not (get_or flags v false) || is_inside front back v ≡ true
unfolding flags_inside
set-of front back flags h v l = all_below-at node_limit (λ x. not (get_or flags x false) || is_inside front back x) h v l

accepted-of : (front : ℕ) (back : Option ℕ) (flags : List Bool) → ends_fit front back ≡ true → ends_set front back flags ≡ true → flags_inside front back flags ≡ true
    → Accepted (record { front = front; back = back; flags = flags })
accepted-of front None flags fit ends inside = record {
  front_fits = omega (arith, eqb-true front 0 fit);
  back_fits = λ b e. none-at e;
  inside = λ b v e l h. none-at e;
  none-set = λ v e l. clear_of (get_or flags v false) (set-of front None flags inside v l);
  first-set = λ b e l. none-at e;
  last_set = λ b e l. none-at e;
  none-at-0 = λ e. eqb-true front 0 fit;
}
accepted-of front (Some b) flags fit ends inside =
    let fits = both _ _ fit in
    let bound : b < node_limit = ltb-true _ _ fits.1 in
    let flagged : front ≤ b → (get_or flags front false ≡ true) × (get_or flags b false ≡ true) = λ l. both _ _ (either-of (ltb b front) _ ends (le-ltb _ _ l)) in
    let between : (v : ℕ) → v < node_limit → get_or flags v false ≡ true → (front ≤ v) × (v ≤ b) = λ v l h. let k = both _ _ (true_implies (get_or flags v false) _ (set-of front (Some b) flags inside v l) h) in (leb-true _ _ k.0, leb-true _ _ k.1) in
    record {
      front_fits = leb-true _ _ fits.0;
      back_fits = λ c e. rw (sym (at_same e)) bound;
      inside = λ c v e l h. rw (sym (at_same e)) (between v l h);
      none-set = λ v e l. at_none e;
      first-set = λ c e l. (flagged (omega (arith, at_same e))).0;
      last_set = λ c e l. rw (sym (at_same e)) (flagged (omega (arith, at_same e))).1;
      none-at-0 = λ e. at_none e;
    }

valid-of : (front : ℕ) (back : Option ℕ) (flags : List Bool) → Accepted (record { front = front; back = back; flags = flags })
    → (ends_fit front back ≡ true) × (ends_set front back flags ≡ true) × (flags_inside front back flags ≡ true)
unfolding flags_inside
valid-of front None flags a = (
  eq-eqb front 0 (a.none-at-0 refl),
  refl,
  all_below-of node_limit (λ v. not (get_or flags v false) || false) (λ v l. implies_true (get_or flags v false) false (λ h. cc (a.none-set v refl l))),
)
valid-of front (Some b) flags a = (
  both_true _ _ (le-leb front node_limit a.front_fits) (lt-ltb b node_limit (a.back_fits b refl)),
  go (ltb b front) refl,
  all_below-of node_limit (λ v. not (get_or flags v false) || is_inside front (Some b) v) (λ v l. implies_true (get_or flags v false) (is_inside front (Some b) v) (λ h. let k = a.inside b v refl l h in both_true _ _ (le-leb front v k.0) (le-leb v b k.1))),
)
  where
    go : (t : Bool) → ltb b front ≡ t → ltb b front || (get_or flags front false && get_or flags b false) ≡ true
    go true e = simp e
    go false e = let l = ltb-false b front e in simp (e, a.first-set b refl l, a.last_set b refl l)

pub valid-exactly : (q : Queue) → (is_valid q ≡ true) ↔ Accepted q
unfolding is_valid
valid-exactly q = (
  λ h. let k = both _ _ h in let m = both _ _ k.0 in accepted-of q.front q.back q.flags m.0 m.1 k.1,
  λ a. let k = valid-of q.front q.back q.flags a in both_true _ _ (both_true _ _ k.0 k.1) k.2,
)
