use mathlib.Core.Path.{sym, ap, ◌∙◌}
use mathlib.Core.List.{List, [], ◌++◌, append_assoc, append-nil}
use Prim.Native.Nat.{ℕ, ◌+◌}
use native.Mathlib.Omega.{arith}
use lib.ListN.{length, get_or, take}
use lib.Seq.{take_all}
use Rattle.sheet.specs.Machine.{machine}
use Rattle.listing.specs.Text.{first_line}
use Rattle.listing.specs.Printed.{list_for, reading_line, reading_lines}
use Rattle.listing.proofs.Listings.{told-count, held-few, lines_next}
use Rattle.listing.proofs.print.List.put_text.Goals as goal

pub loop-k-init : goal.loop-k-init
unfolding reading_lines
loop-k-init c =
    let l = c.args.self.now in
    let count = told-count l.sheet.now l.bytes l.n l.res.now l.made.nodes l.made.links l.answer c.in-Ok.count c.in-Ok.ensures.counts_list in record {
      text = c.put_first_line.ensures.text ∙ (λ i. c.requires.empty i ++ first_line (count i) l.made.taken) ∙ sym (append-nil (first_line (length (list_for (machine l.sheet.now) l.n)) l.made.taken));
      bound = omega (arith, c.put_first_line.ensures.upper_bound, ap length c.requires.empty);
    }

pub put_reading-requires : goal.put_reading-requires
put_reading-requires c =
    let l = c.args.self.now in
    let count = told-count l.sheet.now l.bytes l.n l.res.now l.made.nodes l.made.links l.answer c.in-Ok.count c.in-Ok.ensures.counts_list in
    let few = held-few l.sheet.now l.bytes l.n l.res.now l.made.nodes l.made.links l.answer in
    record { inside = omega arith; room = omega (arith, c.loop-k.invariant.bound, l.few) }

pub loop-k-preserved : goal.loop-k-preserved
loop-k-preserved c =
    let l = c.args.self.now in
    let m = machine l.sheet.now in
    let list = list_for m l.n in
    let count = told-count l.sheet.now l.bytes l.n l.res.now l.made.nodes l.made.links l.answer c.in-Ok.count c.in-Ok.ensures.counts_list in
    let first = first_line (length list) l.made.taken in record {
      text =
          c.put_reading.ensures.text ∙ ap (λ (t : List ℕ). t ++ reading_line m (c.loop-k.k + 1) (get_or list c.loop-k.k [])) c.loop-k.invariant.text
          ∙ append_assoc first (reading_lines m 1 (take c.loop-k.k list)) (reading_line m (c.loop-k.k + 1) (get_or list c.loop-k.k []))
          ∙ ap (λ (t : List ℕ). first ++ t) (lines_next m list c.loop-k.k (omega arith));
      bound = omega (arith, c.loop-k.invariant.bound, c.put_reading.ensures.upper_bound);
    }

pub returns-after-loop-k : goal.returns-after-loop-k
returns-after-loop-k c =
    let l = c.args.self.now in
    let m = machine l.sheet.now in
    let list = list_for m l.n in
    let count = told-count l.sheet.now l.bytes l.n l.res.now l.made.nodes l.made.links l.answer c.in-Ok.count c.in-Ok.ensures.counts_list in
    c.loop-k.invariant.text ∙ ap (λ (r : List (List ℕ)). first_line (length list) l.made.taken ++ reading_lines m 1 r) (take_all c.loop-k.k list (omega arith))
