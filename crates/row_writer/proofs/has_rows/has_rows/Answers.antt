use mathlib.Core.Path.{◌≡◌, sym, ap, ◌∙◌}
use mathlib.Core.Bool.{false, ◌&&◌, ◌||◌}
use Prim.Native.Nat.{ℕ, ◌-◌, ◌≤◌, ◌<◌}
use native.Mathlib.Omega.{arith}
use lib.Dec.{ltb}
use borrow.Author.Tests.{lt-ltb, le-ltb}
use Rattle.sheet.specs.declared.accepted.Sheet.{Sheet}
use Rattle.sheet.specs.declared.form.Form.{Form}
use Rattle.sheet.specs.Sheet.{Parts, node_count, parts_of}
use Rattle.text_rows.specs.Written.{is_short, has_own, is_led, has_rows}
use Rattle.row_writer.proofs.Accepted.{nodes-are, start_is, form-is, start-past}
use Rattle.row_writer.proofs.has_rows.has_rows.Goals as goal

-- the tests in their order
module _ (s : Sheet) where
  abbrev p : Parts
  p = parts_of s.bytes.now

  longer : (u : ℕ) → s.form ≡ Form.Long u → has_rows p ≡ false
  unfolding has_rows
  longer u e = ap (λ (f : Form). is_short f && ltb p.start (node_count p) && has_own p p.start && (has_own p (node_count p - 1) || is_led p (node_count p - 1))) (sym (form-is s) ∙ e)

  module _ (short : s.form ≡ Form.Short) where
    past : s.nodes ≤ s.start → has_rows p ≡ false
    unfolding has_rows
    past h = λ i. is_short ((sym (form-is s) ∙ short) i) && le-ltb p.start (node_count p) (omega (arith, h, nodes-are s, start_is s)) i && has_own p p.start && (has_own p (node_count p - 1) || is_led p (node_count p - 1))

    tests : (start : ℕ) → (start ≡ s.start) × (start < s.nodes) → has_rows p ≡ (has_own p start && (has_own p (s.nodes - 1) || is_led p (s.nodes - 1)))
    unfolding has_rows
    tests start h =
        let last : node_count p - 1 ≡ s.nodes - 1 = ap (λ (n : ℕ). n - 1) (sym (nodes-are s)) in
        λ i. is_short ((sym (form-is s) ∙ short) i) && lt-ltb p.start (node_count p) (omega (arith, h.0, h.1, nodes-are s, start_is s)) i && has_own p (sym (h.0 ∙ start_is s) i) && (has_own p (last i) || is_led p (last i))

pub returns-in_default : goal.returns-in_default
returns-in_default c = sym (longer c.args.sheet.now c.in_default.field-0 c.in_default.is)

pub returns-in_default-start : goal.returns-in_default-start
returns-in_default-start c =
    let s = c.args.sheet.now in
    sym (past s c.in-Short.is (start-past s.nodes s.start (sym c.start.ensures.value ∙ c.in_default-start.is)))

pub returns-then-has_own-2 : goal.returns-then-has_own-2
returns-then-has_own-2 c =
    let s = c.args.sheet.now in
    let own = sym c.has_own.ensures ∙ c.if-has_own.true in
    let last = sym c.has_own-then-has_own.ensures ∙ c.if-has_own-2.true in
    c.if-has_own-2.true ∙ sym (tests s c.in-Short.is c.in-Some.start c.in-Some.ensures.below ∙ λ i. own i && (last i || is_led (parts_of s.bytes.now) (s.nodes - 1)))

pub returns-else-has_own-2 : goal.returns-else-has_own-2
returns-else-has_own-2 c =
    let s = c.args.sheet.now in
    let own = sym c.has_own.ensures ∙ c.if-has_own.true in
    let last = sym c.has_own-then-has_own.ensures ∙ c.if-has_own-2.false in
    c.is_led.ensures ∙ sym (tests s c.in-Short.is c.in-Some.start c.in-Some.ensures.below ∙ λ i. own i && (last i || is_led (parts_of s.bytes.now) (s.nodes - 1)))

pub returns-else-has_own : goal.returns-else-has_own
returns-else-has_own c =
    let s = c.args.sheet.now in
    let p = parts_of s.bytes.now in
    let own = sym c.has_own.ensures ∙ c.if-has_own.false in
    c.if-has_own.false ∙ sym (tests s c.in-Short.is c.in-Some.start c.in-Some.ensures.below ∙ λ i. own i && (has_own p (s.nodes - 1) || is_led p (s.nodes - 1)))
