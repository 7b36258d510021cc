-- The survey of rows: a row more, and all of them. Assumes nothing.
use mathlib.Core.Path.{◌≡◌, refl, sym, ap, ◌∙◌}
use mathlib.Core.Bool.{Bool, true, false, ◌&&◌, cond}
use Rattle.std.proofs.Common.{Option, None, Some}
use mathlib.Core.List.{List, [], ◌∷◌}
use Prim.Native.Nat.{ℕ, ◌+◌, ◌≤◌, ◌<◌, max}
use native.Mathlib.Omega.{arith}
use lib.ListN.{length}
use borrow.Author.Tests.{lt-ltb, le-ltb}
use Rattle.text_rows.specs.Fields as Fields
use Rattle.text_rows.specs.Fields.{finite, barred, and_then}
use Rattle.text_rows.specs.Rows.{Row, link, final, first_node, highest, highest_in, weights_pass, weight_in, weight_passes, on_grid, units_of}
use Rattle.text_rows.specs.Convert.{links_in, is_link}
use Rattle.row_reader.specs.Places.{rows_left}
use Rattle.row_reader.specs.Reading.{weight_read}
use Rattle.row_reader.specs.RowReading.{row_read, row_at}
use Rattle.row_reader.specs.Surveying.{passes, survey_read, survey_row, survey_onto, survey_from, survey_rows, surveyed, first_of, node_of}
use Rattle.row_reader.specs.declared.values.Weight.{Weight}
use Rattle.row_reader.specs.declared.row.Row as Code
use Rattle.row_reader.specs.declared.row.Row.TheVariants.{Link, Final}
use Rattle.row_reader.specs.declared.row.Read.{Read}
use Rattle.row_reader.specs.declared.survey.Survey.{Survey}
use Rattle.row_reader.proofs.Steps.{Stepped, step-none, step_is}

-- ---- the fold is what the definitions say
and-true : (b : Bool) → b ≡ (b && true)
and-true true = refl
and-true false = refl

and_assoc : (a b c : Bool) → ((a && b) && c) ≡ (a && (b && c))
and_assoc true b c = refl
and_assoc false b c = refl

onto-is : (x : Survey) (rs : List Row) → survey_onto x rs ≡ record { passing = x.passing && weights_pass rs; highest = max x.highest (highest rs); links = x.links + links_in rs }
unfolding survey_onto weights_pass highest links_in
onto-is x [] = λ j. record { passing = and-true x.passing j; highest = high j; links = more j }
  where
    high : x.highest ≡ max x.highest 0
    high = omega arith

    more : x.links ≡ x.links + 0
    more = omega arith
onto-is x (r ∷ rs) = onto-is (survey_row x r) rs ∙ (λ j. record { passing = and_assoc x.passing (weight_passes (weight_in r)) (weights_pass rs) j; highest = high j; links = more j })
  where
    high : max (max x.highest (highest_in r)) (highest rs) ≡ max x.highest (max (highest_in r) (highest rs))
    high = omega arith

    more : x.links + is_link r + links_in rs ≡ x.links + (is_link r + links_in rs)
    more = omega arith

abbrev pub nothing : Survey
nothing = record { passing = true; highest = 0; links = 0 }

pub from_is : (o : Option (List Row)) → survey_from nothing o ≡ survey_rows o
from_is None = refl
from_is (Some rs) = ap Some (onto-is nothing rs ∙ (λ j. record { passing = weights_pass rs; highest = high j; links = more j }))
  where
    high : max 0 (highest rs) ≡ highest rs
    high = omega arith

    more : 0 + links_in rs ≡ links_in rs
    more = omega arith

-- ---- a row more
pull : (x : Survey) (r : Row) (o : Option (List Row)) → survey_from x (and_then o (λ rs. Some (r ∷ rs))) ≡ survey_from (survey_row x r) o
unfolding survey_onto
pull x r None = refl
pull x r (Some rs) = refl

passes-is : (w : Fields.Weight) → passes (weight_read w) ≡ weight_passes w
passes-is barred = refl
passes-is (finite z) = go (on_grid z)
  where
    go : (b : Bool) → passes (cond b (Weight.Units (units_of z)) Weight.Off) ≡ b
    go true = refl
    go false = refl

-- by the code's answer and by the definition
survey-row : (x : Survey) (r : Row) → survey_read x (row_read r) ≡ survey_row x r
survey-row x (link s t i o w) = ap (λ (g : Bool). record { passing = x.passing && g; highest = max x.highest (max s t); links = x.links + 1 }) (passes-is w)
survey-row x (final v w) =
    let same : x.links ≡ x.links + 0 = omega arith in
    λ j. record { passing = x.passing && passes-is w j; highest = max x.highest v; links = same j }

pub links-most : (x : Survey) (r : Code.Row) → (survey_read x r).links ≤ x.links + 1
links-most x (Link l) = omega arith
links-most x (Final v w) = omega arith

-- where the rows give a row
pub survey_step : (text : List ℕ) (at : ℕ) (x : Survey) (r : Code.Row) (end : ℕ) → Stepped text at r end → survey_from x (rows_left text at) ≡ survey_from (survey_read x r) (rows_left text end)
survey_step text at x r end st =
    ap (survey_from x) st.rows
    ∙ pull x st.row (rows_left text end)
    ∙ ap (λ (s : Survey). survey_from s (rows_left text end)) (sym (ap (survey_read x) st.is ∙ survey-row x st.row))

pub survey-end : (x : Survey) (o : Option (List Row)) → o ≡ Some [] → survey_from x o ≡ Some x
unfolding survey_onto
survey-end x o e = ap (survey_from x) e

pub surveyed-none : (text : List ℕ) → length text ≡ 0 → surveyed text ≡ None
surveyed-none text e = ap (λ (b : Bool). cond b (survey_rows (rows_left text 0)) None) (le-ltb 0 (length text) (omega arith))

pub surveyed-some : (text : List ℕ) → (length text ≡ 0 → ⊥) → survey_from nothing (rows_left text 0) ≡ surveyed text
surveyed-some text ne =
    from_is (rows_left text 0)
    ∙ sym (ap (λ (b : Bool). cond b (survey_rows (rows_left text 0)) None) (lt-ltb 0 (length text) (omega (arith, ne))))

-- ---- the start: the first row's first node, where all rows are read
first-is : (r : Row) → first_of (row_read r) ≡ first_node (r ∷ [])
first-is (link s t i o w) = refl
first-is (final v w) = refl

pub start_first : (text : List ℕ) → 0 < length text → (rs : List Row) → rows_left text 0 ≡ Some rs → node_of (row_at text 0) ≡ first_node rs
start_first text inside rs e = go (row_at text 0) refl
  where
    head : (r : Row) (o : Option (List Row)) → and_then o (λ xs. Some (r ∷ xs)) ≡ Some rs → first_node (r ∷ []) ≡ first_node rs
    head r None q = absurd (cc)
    head (link s t i o w) (Some xs) q = let z : link s t i o w ∷ xs ≡ rs = cc in ap first_node z
    head (final v w) (Some xs) q = let z : final v w ∷ xs ≡ rs = cc in ap first_node z

    go : (r : Option Read) → row_at text 0 ≡ r → node_of r ≡ first_node rs
    go (Some r) q =
        let st = step_is text 0 inside r.row r.end q in
        ap first_of st.is ∙ first-is st.row ∙ head st.row (rows_left text r.end) (sym st.rows ∙ e)
    go None q = let none_left = step-none text 0 inside q in absurd (cc)
