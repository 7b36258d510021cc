-- Mirrors the code: runs of bytes at the front of a text. A reader need not believe it: laws tie it to Fields (proofs/Lexing). Definitions only.
use Rattle.std.specs.Prelude.{ℕ, suc, Bool, not, ◌&&◌, cond, List, [], ◌∷◌, eqb}
use Rattle.text_rows.specs.Fields.{is_blank, is_newline}

-- how many bytes at the front pass
unfoldable pub run_of : (ℕ → Bool) → List ℕ → ℕ
run_of p [] = 0
run_of p (c ∷ cs) = cond (p c) (suc (run_of p cs)) 0

-- a byte of a field
abbrev pub in_field : ℕ → Bool
in_field c = not (is_blank c) && not (is_newline c)

abbrev pub not_newline : ℕ → Bool
not_newline c = not (is_newline c)

abbrev pub not_blank : ℕ → Bool
not_blank c = not (is_blank c)

abbrev pub not_point : ℕ → Bool
not_point c = not (eqb c 46)
