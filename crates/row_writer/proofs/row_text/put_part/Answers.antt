use mathlib.Core.Path.{◌≡◌, refl, sym, ap, ◌∙◌}
use mathlib.Core.Bool.{Bool, cond}
use mathlib.Core.List.{List, [], ◌∷◌, ◌++◌}
use Rattle.std.proofs.lemmas.List.{append_assoc, append-nil}
use Prim.Native.Nat.{ℕ, suc, ◌+◌, ◌*◌, ◌/◌, ◌%◌, ◌≤◌, ◌<◌}
use native.Mathlib.Omega.{arith}
use lib.ListN.{length, length-append}
use borrow.Author.Tests.{ne_eqb}
use Rattle.text_rows.specs.Written.{shortest, part_text}
use Rattle.row_writer.proofs.Fronts.{shortest-first}
use Rattle.row_writer.proofs.Lengths.{shortest-most}
use Rattle.row_writer.proofs.row_text.put_part.Goals as goal

-- a turn writes one digit
few : (n : ℕ) → 0 < n → n < 1000000 → length (shortest 6 n) ≡ suc (length (shortest 6 (n % 100000 * 10)))
few n z h = ap length (shortest-first n z h)

-- all digits are six at the most
fits : (a b : List ℕ) (rest part : ℕ) → a ++ shortest 6 rest ≡ b ++ shortest 6 part → length a + length (shortest 6 rest) ≤ length b + 6
fits a b rest part e = omega (arith, ap length e, length-append a (shortest 6 rest), length-append b (shortest 6 part), shortest-most 6 part)

pub put_byte-requires-in-loop-rest : goal.put_byte-requires-in-loop-rest
put_byte-requires-in-loop-rest c =
    let turn = c.loop-rest in
    omega (arith, few turn.rest (omega arith) turn.invariant.below, fits turn.row c.put_byte.new.self turn.rest c.args.part turn.invariant.all, ap length c.put_byte.ensures, length-append c.args.row.now (46 ∷ []))

pub loop-rest-smaller : goal.loop-rest-smaller
loop-rest-smaller c = omega (arith, few c.loop-rest.rest (omega arith) c.loop-rest.invariant.below)

pub loop-rest-preserved : goal.loop-rest-preserved
loop-rest-preserved c =
    let turn = c.loop-rest in
    let digit = 48 + turn.rest / 100000 in
    let left = shortest 6 (turn.rest % 100000 * 10) in record {
      below = omega arith;
      all = ap (λ (t : List ℕ). t ++ left) c.put_byte-in-loop-rest.ensures ∙ append_assoc turn.row (digit ∷ []) left ∙ sym (ap (λ (t : List ℕ). turn.row ++ t) (shortest-first turn.rest (omega arith) turn.invariant.below)) ∙ turn.invariant.all;
    }

pub returns-clause-text : goal.returns-clause-text
returns-clause-text c =
    let turn = c.loop-rest in
    let part = c.args.part in
    let done : shortest 6 turn.rest ≡ [] = ap (shortest 6) (let e : turn.rest ≡ 0 = omega arith in e) ∙ unfold shortest in refl in
    let is : 46 ∷ shortest 6 part ≡ part_text part = ap (λ (b : Bool). cond b [] (46 ∷ shortest 6 part)) (sym (ne_eqb part 0 c.if-part-eq0.false)) in
    sym (append-nil turn.row) ∙ sym (ap (λ (t : List ℕ). turn.row ++ t) done) ∙ turn.invariant.all
    ∙ ap (λ (t : List ℕ). t ++ shortest 6 part) c.put_byte.ensures ∙ append_assoc c.args.row.now (46 ∷ []) (shortest 6 part)
    ∙ ap (λ (t : List ℕ). c.args.row.now ++ t) is

pub returns-clause-upper_bound : goal.returns-clause-upper_bound
returns-clause-upper_bound c =
    let turn = c.loop-rest in
    omega (arith, fits turn.row c.put_byte.new.self turn.rest c.args.part turn.invariant.all, ap length c.put_byte.ensures, length-append c.args.row.now (46 ∷ []))
