-- Distances written one after the other: two words each, and each is read back at its place. Assumes nothing.
use mathlib.Core.Path.{◌≡◌, refl, ap, ◌∙◌}
use mathlib.Core.List.{List, [], ◌∷◌, ◌++◌, flat_map}
use Prim.Native.Nat.{ℕ, zero, suc, ◌+◌, ◌*◌, ◌<◌, ◌≤◌}
use native.Mathlib.Omega.{arith}
use lib.ListN.{length, get_or, length-append, get_or-append}
use lib.Seq.{get_or-append-add}
use Rattle.tropical_weight.specs.Limits.{finest}
use Rattle.tropical_weight.specs.Tropical.{fin}
use Rattle.sheet.specs.Words.{word_length, word, bytes_of_all}
use Rattle.sheet.proofs.Round.{Below, word_back}
use Rattle.sheet.proofs.Encoding.{bits-lt}
use Rattle.machine.specs.Distance.{Distance, reached, unreached}
use Rattle.distance.specs.Written.{written_length, written}

two-words : (unit : ℕ) (d : Distance) → length (written unit d) ≡ 2
two-words unit (reached k) = refl
two-words unit unreached = refl

-- so many words
pub length-written : (unit : ℕ) (ds : List Distance) → length (flat_map (written unit) ds) ≡ 2 * length ds
unfolding flat_map
length-written unit [] = refl
length-written unit (d ∷ ds) = length-append (written unit d) (flat_map (written unit) ds) ∙ omega (arith, two-words unit d, length-written unit ds)

-- each is a word
written_below : (unit : ℕ) → unit ≤ finest → (ds : List Distance) → Below 4294967296 (flat_map (written unit) ds)
unfolding flat_map
written_below unit covered [] i = omega arith
written_below unit covered (reached k ∷ ds) zero = omega arith
written_below unit covered (reached k ∷ ds) (suc zero) = bits-lt unit covered (fin k)
written_below unit covered (reached k ∷ ds) (suc (suc i)) = written_below unit covered ds i
written_below unit covered (unreached ∷ ds) zero = omega arith
written_below unit covered (unreached ∷ ds) (suc zero) = omega arith
written_below unit covered (unreached ∷ ds) (suc (suc i)) = written_below unit covered ds i

-- word i of distance v
word_at : (unit : ℕ) (ds : List Distance) (v i : ℕ) → v < length ds → i < 2 → get_or (flat_map (written unit) ds) (2 * v + i) 0 ≡ get_or (written unit (get_or ds v unreached)) i 0
unfolding flat_map
word_at unit [] v i h b = absurd (omega arith)
word_at unit (d ∷ ds) zero i h b =
    ap (λ (n : ℕ). get_or (written unit d ++ flat_map (written unit) ds) n 0) (let e : 2 * 0 + i ≡ i = omega arith in e) ∙ get_or-append (written unit d) (flat_map (written unit) ds) 0 i (omega (arith, two-words unit d))
word_at unit (d ∷ ds) (suc v) i h b =
    ap (λ (n : ℕ). get_or (written unit d ++ flat_map (written unit) ds) n 0) (let e : 2 * suc v + i ≡ length (written unit d) + (2 * v + i) = omega (arith, two-words unit d) in e)
    ∙ get_or-append-add (written unit d) (flat_map (written unit) ds) (2 * v + i) 0 ∙ word_at unit ds v i (omega arith) b

-- as bytes, with others after them
pub value-at : (unit : ℕ) → unit ≤ finest → (ds : List Distance) (rest : List ℕ) (v i : ℕ) → v < length ds → i < 2
    → word (bytes_of_all (flat_map (written unit) ds) ++ rest) (written_length * v + word_length * i) ≡ get_or (written unit (get_or ds v unreached)) i 0
value-at unit covered ds rest v i h b =
    let ws = flat_map (written unit) ds in
    ap (word (bytes_of_all ws ++ rest)) (let z : 8 * v + 4 * i ≡ 0 + 4 * (2 * v + i) = omega arith in z)
    ∙ word_back ws [] rest (written_below unit covered ds) (2 * v + i) (omega (arith, length-written unit ds))
    ∙ word_at unit ds v i h b
