-- What is put into an area that may be too short: a list, a list more behind it, the pairs of more links. Assumes nothing.
use mathlib.Core.Path.{◌≡◌, refl, sym, ap, ◌∙◌, subst}
use mathlib.Core.List.{List, [], ◌∷◌, ◌++◌, flat_map, append_assoc, append-nil}
use Prim.Native.Nat.{ℕ, zero, suc, ◌+◌, ◌-◌, ◌≤◌, ◌<◌}
use native.Mathlib.Nat.{add-zero}
use native.Mathlib.Numerals.{add-one}
use native.Mathlib.Omega.{arith}
use lib.ListN.{length, get_or, take, length-append}
use lib.Seq.{sets, take-suc, take-length}
use Rattle.std.specs.Prelude.{Option, Some, None}
use Rattle.tropical_weight.specs.Limits.{link_limit}
use Rattle.sheet.proofs.Below.{flat-snoc}
use Rattle.sheet.proofs.Bytes.{sets-append}
use Rattle.link_pairs.specs.Found.{pairs_of, found, Put}

-- all of a list is put in
pub put_all : (at : ℕ) (done all before after : List ℕ) (r : ℕ) → length after ≡ length before → r ≤ link_limit → r ≡ at + length done → after ≡ sets before at done → done ≡ all → Put at all before after (Some r)
put_all at done all before after r n h e s d = record {
  size = n;
  placed = (h, e ∙ ap (λ (l : List ℕ). at + length l) d, s ∙ ap (λ (l : List ℕ). sets before at l) d);
}

-- the area is full, and there is more
pub put-past : (at : ℕ) (done rest all before after : List ℕ) (x : ℕ) → length after ≡ length before → link_limit ≡ at + length done → done ++ (x ∷ rest) ≡ all → Put at all before after None
put-past at done rest all before after x n e d = record {
  size = n;
  placed = omega (arith, e, ap length (sym d) ∙ length-append done (x ∷ rest));
}

-- a list more behind another: all of it, or the area is full
pub put-more : (at : ℕ) (front new before middle after : List ℕ) (next : ℕ) (r : Option ℕ) → Put at front before middle (Some next) → Put next new middle after r → Put at (front ++ new) before after r
put-more at front new before middle after next (Some k) p q =
    let f = p.placed in
    let g = q.placed in record {
      size = q.size ∙ p.size;
      placed = (
        g.0,
        omega (arith, f.1, g.1, length-append front new),
        g.2 ∙ (λ i. sets (f.2 i) (f.1 i) new) ∙ sym (sets-append before at front new),
      );
    }
put-more at front new before middle after next None p q = record { size = q.size ∙ p.size; placed = omega (arith, p.placed.1, q.placed, length-append front new) }

-- and where the area is full already
put-over : (at : ℕ) (front new before after : List ℕ) → Put at front before after None → Put at (front ++ new) before after None
put-over at front new before after p = record { size = p.size; placed = omega (arith, p.placed, length-append front new) }

-- ---- the pairs of one link more
pub found-next : (n : ℕ) (seconds firsts : List ℕ) (l : ℕ) → l < length firsts → found n seconds (take l firsts) ++ pairs_of n seconds (get_or firsts l 0) ≡ found n seconds (take (l + 1) firsts)
unfolding found
found-next n seconds firsts l h =
    sym (flat-snoc (pairs_of n seconds) (take l firsts) (get_or firsts l 0))
    ∙ ap (flat_map (pairs_of n seconds)) (sym (take-suc firsts l 0 h) ∙ ap (λ (k : ℕ). take k firsts) (sym (add-one l)))

pub found_none : (n : ℕ) (seconds firsts before : List ℕ) → Put 0 (found n seconds (take 0 firsts)) before before (Some 0)
unfolding found flat_map
found_none n seconds firsts before = put_all 0 [] [] before before 0 refl (omega arith) refl refl refl

-- those of more links follow
found-more : (n : ℕ) (seconds firsts : List ℕ) (l d : ℕ) → l + d ≤ length firsts → (rest : List ℕ) × (found n seconds (take l firsts) ++ rest ≡ found n seconds (take (l + d) firsts))
found-more n seconds firsts l zero h = ([], append-nil (found n seconds (take l firsts)) ∙ ap (λ (k : ℕ). found n seconds (take k firsts)) (sym (add-zero l)))
found-more n seconds firsts l (suc d) h =
    let r = found-more n seconds firsts l d (omega arith) in
    let more = pairs_of n seconds (get_or firsts (l + d) 0) in (
      r.0 ++ more,
      sym (append_assoc (found n seconds (take l firsts)) r.0 more) ∙ ap (λ (k : List ℕ). k ++ more) r.1 ∙ found-next n seconds firsts (l + d) (omega arith)
          ∙ ap (λ (k : ℕ). found n seconds (take k firsts)) (let e : l + d + 1 ≡ l + suc d = omega arith in e),
    )

-- so that too many of some links are too many of all
pub put-early : (n : ℕ) (seconds firsts before after : List ℕ) (l : ℕ) → l ≤ length firsts → Put 0 (found n seconds (take l firsts)) before after None → Put 0 (found n seconds firsts) before after None
put-early n seconds firsts before after l h p =
    let z : l + (length firsts - l) ≡ length firsts = omega arith in
    let m = found-more n seconds firsts l (length firsts - l) (omega (arith, z)) in
    subst (λ (k : List ℕ). Put 0 k before after None) (m.1 ∙ ap (λ (k : ℕ). found n seconds (take k firsts)) z ∙ ap (found n seconds) (take-length firsts))
    (put-over 0 (found n seconds (take l firsts)) m.0 before after p)
