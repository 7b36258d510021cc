use Rattle.std.proofs.Common.{◌≡◌, ℕ, Bool, true, false, ◌&&◌, T, ap, sym, ◌∙◌, subst, get_or, eqb, eqb→eq, refl}
use Rattle.std.specs.Prelude.{Option, Some, None}
use Rattle.std.specs.Option.{option_eq}
use Rattle.std.specs.Cmp.{booleans_Decides}
use Rattle.std.proofs.lemmas.Slice.Eq.{slice_eq-Decides}
use mathlib.Core.Bool.{beq}
use mathlib.Core.List.{List}
use lib.Ieee.Fits.{and_l, and_r}
use lib.Pointwise.{pointwise}
use Rattle.replay_queues.proofs.records.same.Goals as goal

same-option : (a b : Option ℕ) → T (option_eq eqb a b) → a ≡ b
same-option None None t = refl
same-option None (Some y) t = absurd t
same-option (Some x) None t = absurd t
same-option (Some x) (Some y) t = ap Some (eqb→eq x y t)

same-flags : (a b : List Bool) → T (pointwise beq a b) → a ≡ b
same-flags a b t = (slice_eq-Decides booleans_Decides a b (pointwise beq a b) refl).0 (is (pointwise beq a b) t)
  where
    is : (x : Bool) → T x → x ≡ true
    is true t = refl
    is false t = absurd t

-- what the derived equality says of the three fields
pub returns : goal.returns
returns c z =
    let a = c.args.a.now in
    let b = c.args.b.now in
    let ends = option_eq eqb a.back b.back in
    let flags = pointwise beq a.flags b.flags in
    let all : T (eqb a.front b.front && (ends && flags)) = subst T (sym z ∙ c.eq.ensures) tt in
    let rest = and_r (eqb a.front b.front) (ends && flags) all in record {
      front = eqb→eq a.front b.front (and_l (eqb a.front b.front) (ends && flags) all);
      back = same-option a.back b.back (and_l ends flags rest);
      flags = λ v l. ap (λ (xs : List Bool). get_or xs v false) (same-flags a.flags b.flags (and_r ends flags rest));
    }
