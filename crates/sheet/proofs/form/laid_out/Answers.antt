use mathlib.Core.Path.{sym, ap, ◌∙◌}
use Prim.Native.Nat.{◌*◌}
use lib.ListN.{length}
use borrow.Author.Tests.{lt-leb, le-leb, eq-eqb, ne_eqb}
use Rattle.sheet.specs.Sheet.{link_length, field_back, laid_out}
use Rattle.sheet.proofs.form.laid_out.Goals as goal

pub returns-then-sheet-size : goal.returns-then-sheet-size
unfolding laid_out
returns-then-sheet-size c = simp (lt-leb c.args.size (length c.args.sheet.now) c.if-sheet-size.true)

pub returns-then-field_back-ne0 : goal.returns-then-field_back-ne0
unfolding laid_out
returns-then-field_back-ne0 c =
    simp (le-leb c.args.size (length c.args.sheet.now) c.if-sheet-size.false, ne_eqb (field_back c.args.size c.args.sheet.now 0) 0 (λ e. c.if-field_back-ne0.true (c.field_back.ensures ∙ e)))

pub returns-then-field_back-links : goal.returns-then-field_back-links
unfolding laid_out
returns-then-field_back-links c =
    let size = c.args.size in
    let bytes = c.args.sheet.now in
    simp (
      le-leb size (length bytes) c.if-sheet-size.false,
      eq-eqb (field_back size bytes 0) 0 (sym c.field_back.ensures ∙ c.if-field_back-ne0.false),
      ne_eqb (field_back size bytes 1) (link_length * field_back size bytes 3) (λ e. c.if-field_back-links.true (c.field_back-2.ensures ∙ e ∙ sym (ap (λ k. link_length * k) c.field_back-links.ensures))),
    )

pub returns : goal.returns
unfolding laid_out
returns c =
    let size = c.args.size in
    let bytes = c.args.sheet.now in
    simp (
      le-leb size (length bytes) c.if-sheet-size.false,
      eq-eqb (field_back size bytes 0) 0 (sym c.field_back.ensures ∙ c.if-field_back-ne0.false),
      eq-eqb (field_back size bytes 1) (link_length * field_back size bytes 3) (sym c.field_back-2.ensures ∙ c.if-field_back-links.false ∙ ap (λ k. link_length * k) c.field_back-links.ensures),
      c.field_back-links.ensures,
      c.field_back-nodes.ensures,
    )
