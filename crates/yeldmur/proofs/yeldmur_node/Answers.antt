use mathlib.Core.Path.{◌≡◌, ap, ◌∙◌}
use mathlib.Core.List.{List, [], ◌∷◌}
use Prim.Native.Nat.{ℕ}
use lib.ListN.{length}
use Rattle.std.specs.Prelude.{Option}
use Rattle.sheet.specs.declared.tr.Node.{Node}
use Rattle.sheet.specs.Sheet.{read_number}
use Rattle.sheet.specs.Machine.{machine}
use Rattle.sheet_fields.specs.Nodes.{next_node}
use Rattle.sheet_fields.specs.Fields.{fields_of_node, NodeOf}
use Rattle.yeldmur.specs.Told.{node_told, numbered}
use Rattle.yeldmur.proofs.Numbered.{node-numbered}
use Rattle.yeldmur.proofs.yeldmur_node.Goals as goal

-- an answer told by numbers, with what it is of an accepted sheet
answer : (sheet : List ℕ) (number : ℕ) (old : List ℕ) (s : Option Node) → (s ≡ next_node sheet number) × (read_number sheet ≡ 0 → NodeOf (machine sheet) number s) → (x : List ℕ) → x ≡ node_told s old
    → (x ≡ node_told (next_node sheet number) old) × (read_number sheet ≡ 0 → x ≡ numbered number (length (machine sheet).finals) (fields_of_node (machine sheet) number) old)
answer sheet number old s e x is = (is ∙ ap (λ (s : Option Node). node_told s old) e.0, λ read. is ∙ node-numbered (machine sheet) number old s (e.1 read))

pub returns-in-Some : goal.returns-in-Some
returns-in-Some c =
    let a = c.args in
    let n = c.in-Some.node in
    let old = a.links.now ∷ a.mark.now ∷ a.weight_bits.now ∷ [] in
    let e = c.in-Some.ensures in
    let told = answer a.sheet.now a.number old _ (e.value, e.node_of) _ (λ i. 0 ∷ n.links ∷ n.mark ∷ c.to_bits.ensures i ∷ []) in
    record { weight_bits_after = told.0; weight_bits_after_2 = told.1 }

pub returns-in-None : goal.returns-in-None
returns-in-None c =
    let a = c.args in
    let old = a.links.now ∷ a.mark.now ∷ a.weight_bits.now ∷ [] in
    let e = c.in-None.ensures in
    let told = answer a.sheet.now a.number old _ (e.value, e.node_of) _ (λ i. c.from.ensures i ∷ old) in
    record { weight_bits_after = told.0; weight_bits_after_2 = told.1 }
