use mathlib.Core.Path.{◌≡◌, sym, ap, ◌∙◌}
use mathlib.Core.List.{List}
use Prim.Native.Nat.{ℕ, ◌<◌}
use native.Mathlib.Omega.{arith}
use lib.ListN.{length}
use lib.Seq.{sets}
use borrow.Author.Rules.{rules}
use Rattle.std.specs.Prelude.{Ok, Err}
use Rattle.sheet.specs.declared.accepted.Sheet.{Sheet}
use Rattle.sheet.specs.Sheet.{read_number, parts_of}
use Rattle.text_rows.specs.Written.{text_of}
use Rattle.rows.proofs.TextAnswers.{promise-refused, promise-short, promise-written}
use Rattle.rows.proofs.to_rows.sheet_to_rows.Goals as goal

-- ---- of a sheet that borrows these bytes
module _ (bytes : List ℕ) (s : Sheet) (same : s.bytes.now ≡ bytes) where
  passes : read_number bytes ≡ 0
  passes = ap read_number (sym same) ∙ s.accepted

  sized : length (text_of (parts_of s.bytes.now)) ≡ length (text_of (parts_of bytes))
  sized = ap (λ (b : List ℕ). length (text_of (parts_of b))) same

pub returns-in_err-read-clause-no_text : goal.returns-in_err-read-clause-no_text
returns-in_err-read-clause-no_text c =
    let r = c.in_err-read.field-0.0 in
    let old = c.args.res.now in
    let made : c.from_residual.result ≡ Err r = search rules in
    λ h. (promise-refused c.args.sheet.now old r (c.in_err-read.ensures (length old))).no_text (sym made ∙ h)

pub returns-then-res-size : goal.returns-then-res-size
returns-then-res-size c =
    let bytes = c.args.sheet.now in
    let s = c.in_ok-read.read in
    let told = c.in_ok-read.ensures in
    let short : length c.args.res.now < length (text_of (parts_of bytes)) = omega (arith, c.if-res-size.true, c.text_length-size.ensures, sized bytes s told.0) in
    let p = promise-short bytes c.args.res.now (passes bytes s told.0) told.1 short in
    record { value = p.value; res_after = p.res_after; by_index = p.by_index; no_text = p.no_text }

pub returns : goal.returns
returns c =
    let bytes = c.args.sheet.now in
    let s = c.in_ok-read.read in
    let told = c.in_ok-read.ensures in
    let old = c.args.res.now in
    let size : c.text_length-size.result ≡ length (text_of (parts_of bytes)) = c.text_length-size.ensures ∙ sized bytes s told.0 in
    let written = c.put_rows.ensures ∙ ap (λ (b : List ℕ). sets old 0 (text_of (parts_of b))) told.0 in
    let p = promise-written bytes old (passes bytes s told.0) told.1 c.put_rows.new.res (λ i. omega (arith, c.type_inv.sheet i)) (omega (arith, c.if-res-size.false, size)) written in
    let as-told = ap (λ (n : ℕ). Ok n) size in record {
      value = as-told ∙ p.value;
      res_after = p.res_after;
      by_index = λ n e. p.by_index n (sym as-told ∙ e);
      no_text = λ e. p.no_text (sym as-told ∙ e);
    }
