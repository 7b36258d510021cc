-- Where the distances of a reversed machine come from: those made in the words from the slot of node 1 on. Assumes nothing.
use mathlib.Core.Path.{◌≡◌, sym, ap, ◌∙◌, subst}
use mathlib.Core.List.{List, ◌++◌}
use Prim.Native.Nat.{ℕ, ◌+◌, ◌-◌, ◌*◌, ◌≤◌, ◌<◌}
use native.Mathlib.Omega.{arith}
use lib.ListN.{length, get_or, take, drop, length-append, length-drop, take-append-drop, get_or-append}
use lib.Seq.{get_or-append-add, length-take-le, take_at, drop-append-add, drop-append-le, drop-drop}
use Rattle.sheet.specs.declared.tr.Trailer.{Trailer}
use Rattle.sheet.specs.Records.{trailer_at}
use Rattle.sheet.specs.Sheet.{parts_of}
use Rattle.sheet.specs.Machine.{unit_in, machine_of}
use Rattle.sheet.proofs.Fields.{read-fields}
use Rattle.sheet.proofs.Sources.{machine-nodes}
use Rattle.machine.specs.Distance.{distance}
use Rattle.slots.specs.Slots.{slot_length}
use Rattle.distance.specs.Held.{held, distance_in}
use Rattle.distance.proofs.Words.{same-words}
use Rattle.shortest_distance.specs.Outcome.{slots_needed}
use Rattle.shortest_distance.specs.Sound.{Made}
use Rattle.reversed_machine.specs.Laid.{MeasuredIn}

module _ (bytes : List ℕ) (nodes : ℕ) (old made : List ℕ) (fits : nodes + slot_length * (slots_needed bytes + 1) ≤ length old) where
  -- those words, and what lies after them, which is nothing
  abbrev lent : List ℕ
  lent = take (length old - (nodes + 8)) (drop (nodes + 8) old)

  abbrev rest : List ℕ
  rest = drop (length old - (nodes + 8)) (drop (nodes + 8) old)

  module _ (h : Made bytes lent made) where
    front-size : length (take (nodes + 8) old) ≡ nodes + 8
    front-size = length-take-le (nodes + 8) old (omega arith)

    lent-size : length made ≡ length old - (nodes + 8)
    lent-size = h.size ∙ length-take-le (length old - (nodes + 8)) (drop (nodes + 8) old) (omega (arith, length-drop (nodes + 8) old))

    -- a word of the nodes' slots
    here : (i j : ℕ) → i ≡ nodes + 8 + j → j < slot_length * slots_needed bytes → get_or (take (nodes + 8) old ++ (made ++ rest)) i 0 ≡ get_or made j 0
    here i j at b =
        ap (λ (k : ℕ). get_or (take (nodes + 8) old ++ (made ++ rest)) k 0) (let z : i ≡ length (take (nodes + 8) old) + j = omega (arith, front-size) in z)
        ∙ get_or-append-add (take (nodes + 8) old) (made ++ rest) j 0
        ∙ get_or-append made rest 0 j (omega (arith, lent-size))

    distance-here : (v : ℕ) → v < slots_needed bytes → distance_in (take (nodes + slot_length) old ++ (made ++ rest)) (nodes + slot_length * (v + 1)) ≡ held (unit_in (machine_of (parts_of bytes))) (distance (machine_of (parts_of bytes)) v)
    distance-here v b =
        same-words (take (nodes + 8) old ++ (made ++ rest)) made (nodes + slot_length * (v + 1)) (slot_length * v) (here (nodes + slot_length * (v + 1)) (slot_length * v) (omega arith) (omega arith))
        (here (nodes + slot_length * (v + 1) + 1) (slot_length * v + 1) (omega arith) (omega arith))
        ∙ h.each v b

    after : drop (nodes + slot_length * (slots_needed bytes + 1)) (take (nodes + 8) old ++ (made ++ rest)) ≡ drop (nodes + slot_length * (slots_needed bytes + 1)) old
    after =
        let n = slot_length * slots_needed bytes in
        ap (λ (k : ℕ). drop k (take (nodes + 8) old ++ (made ++ rest))) (let z : nodes + slot_length * (slots_needed bytes + 1) ≡ length (take (nodes + 8) old) + slot_length * slots_needed bytes = omega (arith, front-size) in z)
        ∙ drop-append-add (take (nodes + 8) old) (made ++ rest) n
        ∙ drop-append-le n made rest (omega (arith, lent-size))
        ∙ ap (λ (l : List ℕ). l ++ rest) h.beyond
        ∙ sym (drop-append-le n lent rest (omega (arith, lent-size, h.size)))
        ∙ ap (drop n) (take-append-drop (length old - (nodes + 8)) (drop (nodes + 8) old))
        ∙ drop-drop n (nodes + 8) old
        ∙ ap (λ (k : ℕ). drop k old) (let z : nodes + 8 + slot_length * slots_needed bytes ≡ nodes + slot_length * (slots_needed bytes + 1) = omega arith in z)

    pub measured-in : MeasuredIn bytes nodes old (take (nodes + 8) old ++ (made ++ rest))
    measured-in = record {
      measured = λ v b. distance-here v (subst (λ (n : ℕ). v < n) (machine-nodes (parts_of bytes)) b);
      size =
          length-append (take (nodes + 8) old) (made ++ rest)
          ∙ omega (arith, front-size, length-append made rest, lent-size, length-drop (length old - (nodes + 8)) (drop (nodes + 8) old), length-drop (nodes + 8) old);
      before = take_at (take (nodes + 8) old) (made ++ rest) (nodes + 8) front-size;
      beyond = subst (λ (n : ℕ). drop (nodes + slot_length * (n + 1)) (take (nodes + 8) old ++ (made ++ rest)) ≡ drop (nodes + slot_length * (n + 1)) old) (sym (machine-nodes (parts_of bytes))) after;
    }

-- by the trailer that reading found
pub slots-fit : (bytes : List ℕ) → (t : Trailer) → t ≡ trailer_at bytes → (nodes : ℕ) (old : List ℕ) → nodes + slot_length * (t.nodes + 1) ≤ length old → nodes + slot_length * (slots_needed bytes + 1) ≤ length old
slots-fit bytes t same nodes old h = subst (λ (n : ℕ). nodes + slot_length * (n + 1) ≤ length old) (ap (λ (t : Trailer). t.nodes) same ∙ sym (read-fields bytes).nodes-are) h
