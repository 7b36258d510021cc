use mathlib.Core.Path.{◌≡◌, ap, ◌∙◌}
use mathlib.Core.List.{List, [], ◌++◌}
use Prim.Native.Nat.{ℕ, ◌+◌, ◌≤◌}
use native.Mathlib.Omega.{arith}
use lib.IntN.{ℤ}
use lib.ListN.{get_or, take, replicate, length-replicate}
use mir.Syntax.{w32}
use mir.Val.{SFits}
use mir.ValLaws.{to_z-of_z}
use borrow.Author.Rules.{rules}
use Rattle.sheet.specs.Machine.{machine}
use Rattle.listing.specs.Text.{line_of, labels_of}
use Rattle.listing.specs.Printed.{run_most, list_for}
use Rattle.listing.proofs.Listings.{told-parts, held-few, held-short, held-told, front-in, line-is}
use Rattle.listing.proofs.print.List.put_reading.Goals as goal

pub overflow_add-k : goal.overflow_add-k
overflow_add-k c =
    let l = c.args.self.now in
    omega (arith, c.requires.inside, held-few l.sheet.now l.bytes l.n l.res.now l.made.nodes l.made.links l.answer, l.few)

pub put_line-requires-clause-by_index : goal.put_line-requires-clause-by_index
put_line-requires-clause-by_index c =
    let l = c.args.self.now in
    let size = length-replicate {A = ℕ} run_most 0 in
    let told = held-told l.sheet.now l.bytes l.n l.res.now l.made.nodes l.made.links l.answer c.args.k c.requires.inside (replicate run_most 0) _ c.reading.new.run l.short size c.in-Ok.ensures.reads_list in
    let parts = told-parts (machine l.sheet.now) (get_or (list_for (machine l.sheet.now) l.n) c.args.k []) c.in-Ok.told told.0 in
    let short : c.in-Ok.told.links ≤ run_most = omega (arith, parts.0, held-short l.sheet.now l.bytes l.n l.res.now l.made.nodes l.made.links l.answer c.args.k c.requires.inside l.short) in
    front-in l.sheet.now l.bytes l.n l.res.now l.made.nodes l.made.links l.answer c.args.k c.requires.inside (replicate run_most 0) c.reading.new.run c.in-Ok.told.links parts.0 told.1 (omega (arith, short, size))

pub returns-in-Ok-clause-text : goal.returns-in-Ok-clause-text
returns-in-Ok-clause-text c =
    let l = c.args.self.now in
    let size = length-replicate {A = ℕ} run_most 0 in
    let told = held-told l.sheet.now l.bytes l.n l.res.now l.made.nodes l.made.links l.answer c.args.k c.requires.inside (replicate run_most 0) _ c.reading.new.run l.short size c.in-Ok.ensures.reads_list in
    let parts = told-parts (machine l.sheet.now) (get_or (list_for (machine l.sheet.now) l.n) c.args.k []) c.in-Ok.told told.0 in
    let short : c.in-Ok.told.links ≤ run_most = omega (arith, parts.0, held-short l.sheet.now l.bytes l.n l.res.now l.made.nodes l.made.links l.answer c.args.k c.requires.inside l.short) in
    let line = line-is l.sheet.now l.bytes l.n l.res.now l.made.nodes l.made.links l.answer c.args.k c.requires.inside (replicate run_most 0) c.reading.new.run c.in-Ok.told.links parts.0 told.1 (omega (arith, short, size)) (c.args.k + 1) in
    let fits : SFits w32 c.in-Ok.told.cost = search rules in
    c.put_line.ensures.text ∙ ap (λ (t : List ℕ). c.args.page.now ++ t) (ap (λ (z : ℤ). line_of (c.args.k + 1) z (labels_of l.sheet.now (take c.in-Ok.told.links c.reading.new.run))) (to_z-of_z w32 c.in-Ok.told.cost fits ∙ parts.1) ∙ line)

pub returns-in_default-clause-text : goal.returns-in_default-clause-text
returns-in_default-clause-text c =
    let l = c.args.self.now in
    let told = held-told l.sheet.now l.bytes l.n l.res.now l.made.nodes l.made.links l.answer c.args.k c.requires.inside (replicate run_most 0) _ c.reading.new.run l.short (length-replicate {A = ℕ} run_most 0) c.in_default.ensures.reads_list in
    let not = told.0 in
    let z : ◌≡◌ {A = ℕ} 0 1 = cc in absurd (omega arith)
