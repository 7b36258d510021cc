use mathlib.Core.Path.{sym, ap, ◌∙◌}
use mathlib.Core.List.{List, [], ◌∷◌, ◌++◌}
use Prim.Native.Nat.{ℕ, ◌+◌}
use native.Mathlib.Omega.{arith}
use lib.Seq.{sets}
use Rattle.sheet.specs.declared.form.Form.{Form}
use Rattle.sheet.specs.Words.{bytes_of_all}
use Rattle.sheet.specs.Sheet.{short_trailer, unit_fields}
use Rattle.sheet.specs.Accepted.{five_fields}
use Rattle.sheet.proofs.Bytes.{bytes_of_all-one, stored_next}
use Rattle.sheet.proofs.tr.Trailer.put.Goals as goal

-- the sixth field behind the first five
pub returns-in-Long : goal.returns-in-Long
returns-in-Long c =
    let old = c.args.res.now in
    let at = c.args.at in
    let five = five_fields c.args.self.now in
    let u = c.in-Long.unit in
    stored_next old c.put_words.new.bytes c.put_word.new.bytes at five (u ∷ []) (at + short_trailer)
    (c.put_words.ensures ∙ ap (λ (w : List ℕ). sets old at (bytes_of_all w)) c.words.ensures)
    (c.put_word.ensures ∙ ap (sets c.put_words.new.bytes (at + short_trailer)) (sym (bytes_of_all-one u))) (omega arith)
    ∙ ap (λ (f : Form). sets old at (bytes_of_all (five ++ unit_fields f))) (sym c.in-Long.is)
