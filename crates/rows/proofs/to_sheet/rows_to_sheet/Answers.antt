use mathlib.Core.Path.{◌≡◌, refl, sym, ap, ◌∙◌}
use Prim.Native.Nat.{ℕ, ◌+◌, ◌<◌}
use native.Mathlib.Omega.{arith}
use lib.ListN.{length}
use borrow.Author.Rules.{rules}
use Rattle.std.specs.Prelude.{Ok, Err}
use Rattle.text_rows.specs.Convert.{length_of}
use Rattle.row_reader.specs.declared.survey.Survey.{Survey}
use Rattle.row_reader.proofs.Surveys.{start_first}
use Rattle.row_reader.proofs.Places.{begins}
use Rattle.rows.proofs.Judging.{passed, size_is, answer-refused, over-refused, answer-short, over-short}
use Rattle.rows.proofs.Making.{few, made}
use Rattle.rows.proofs.to_sheet.rows_to_sheet.Goals as goal

pub length_of-size-requires : goal.length_of-size-requires
length_of-size-requires c =
    let s = c.in_ok-s.s in
    let text = c.args.text.now in
    let g = passed text s c.in_ok-s.ensures in
    omega (arith, (few text s g).1, ap (λ (x : Survey). x.links) g.is)

pub returns-then-res-size : goal.returns-then-res-size
returns-then-res-size c =
    let s = c.in_ok-s.s in
    let text = c.args.text.now in
    let old = c.args.res.now in
    let g = passed text s c.in_ok-s.ensures in
    let short : length old < length_of g.rows = omega (arith, c.if-res-size.true, c.length_of-size.ensures, size_is text s g) in record {
      value = answer-short (length old) text s g short;
      res_after = over-short (length old) text s g old refl short;
      by_index = λ size e. let z : ◌≡◌ {A = ℕ} 0 1 = cc in absurd (omega arith);
    }

pub overflow_add-s : goal.overflow_add-s
overflow_add-s c =
    let s = c.in_ok-s.s in
    let text = c.args.text.now in
    let g = passed text s c.in_ok-s.ensures in
    omega (arith, (few text s g).0, ap (λ (x : Survey). x.highest) g.is)

pub fill-requires : goal.fill-requires
fill-requires c =
    let s = c.in_ok-s.s in
    let text = c.args.text.now in
    let g = passed text s c.in_ok-s.ensures in
    let b = begins text g.rows g.read in record {
      rows = g.rows;
      read = g.read;
      holds = g.holds;
      weighs = g.weighs;
      links-are = ap (λ (x : Survey). x.links) g.is;
      nodes-are = ap (λ (x : Survey). x.highest + 1) g.is;
      start_is = c.start_of.ensures ∙ start_first text b.0 g.rows b.1;
      enough = omega (arith, c.if-res-size.false, c.length_of-size.ensures, size_is text s g);
    }

pub returns-in_err-s : goal.returns-in_err-s
returns-in_err-s c =
    let r = c.in_err-s.field-0.0 in
    let text = c.args.text.now in
    let old = c.args.res.now in
    let made : c.from_residual.result ≡ Err r = search rules in record {
      value = made ∙ answer-refused (length old) text r c.in_err-s.ensures;
      res_after = over-refused (length old) text r c.in_err-s.ensures old refl;
      by_index = λ size e. let z : ◌≡◌ {A = ℕ} 0 1 = cc in absurd (omega arith);
    }

pub returns : goal.returns
returns c =
    let s = c.in_ok-s.s in
    let text = c.args.text.now in
    let old = c.args.res.now in
    let g = passed text s c.in_ok-s.ensures in
    let size : c.length_of-size.result ≡ length_of g.rows = c.length_of-size.ensures ∙ size_is text s g in
    let m = made text s g old c.fill.new.res (omega (arith, c.if-res-size.false, size)) c.fill.ensures in
    let as-told = ap (λ (n : ℕ). Ok n) size in record {
      value = as-told ∙ m.0;
      res_after = m.1.0;
      by_index = λ n e. m.1.1 n (sym as-told ∙ e);
    }
