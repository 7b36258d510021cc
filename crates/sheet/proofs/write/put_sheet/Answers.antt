use mathlib.Core.Path.{◌≡◌, ap, ◌∙◌}
use mathlib.Core.List.{List, ◌∷◌}
use Prim.Native.Nat.{ℕ, ◌+◌, ◌*◌, ◌/◌}
use native.Mathlib.Omega.{arith}
use lib.ListN.{length}
use lib.Seq.{sets}
use Rattle.sheet.specs.Words.{bytes_of_all}
use Rattle.sheet.specs.Sheet.{link_length, node_length, unit_fields, sheet_of}
use Rattle.sheet.specs.Accepted.{trailer_fields}
use Rattle.sheet.proofs.Writing.{sheet-stores}
use Rattle.sheet.proofs.write.put_sheet.Goals as goal

pub returns : goal.returns
unfolding sheet_of
returns c =
    let args = c.args in
    let xs = args.links.now in
    let ys = args.nodes.now in
    let t = length xs / 4 in
    let n = length ys / 3 in
    let trailer : List ℕ = 0 ∷ link_length * t ∷ n ∷ t ∷ args.start ∷ unit_fields args.form in
    let first : link_length * t ≡ 4 * length xs = omega arith in
    let second : link_length * t + node_length * n ≡ 4 * length xs + 4 * length ys = omega arith in
    c.put.ensures ∙ (λ i. sets c.put_words-2.new.bytes (link_length * t + node_length * n) (bytes_of_all (trailer_fields (c.of-trailer.ensures i))))
    ∙ ap (λ (m : List ℕ). sets m (link_length * t + node_length * n) (bytes_of_all trailer))
    (c.put_words-2.ensures ∙ ap (λ (m : List ℕ). sets m (link_length * t) (bytes_of_all ys)) c.put_words.ensures)
    ∙ (λ i. sets (sets (sets args.res.now 0 (bytes_of_all xs)) (first i) (bytes_of_all ys)) (second i) (bytes_of_all trailer))
    ∙ sheet-stores args.res.now xs ys trailer
