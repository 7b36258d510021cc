-- The words of the answer stored one after the other, turn by turn of the passes along the way back. Assumes nothing.
use mathlib.Core.Path.{◌≡◌, sym, ap, ◌∙◌}
use mathlib.Core.List.{List, [], ◌∷◌, ◌++◌}
use Prim.Native.Nat.{ℕ, ◌+◌, ◌*◌}
use native.Mathlib.Numerals.{add-one}
use lib.ListN.{length}
use lib.Seq.{sets}
use Rattle.sheet.specs.Words.{bytes_of_all}
use Rattle.list_answer.specs.ListAnswer.{link_to}
use Rattle.sheet.proofs.Bytes.{sets-words}
use Rattle.single_path.specs.SingleWords.{way_links}

-- The words left to store, ws, begin with those that a turn stores, xs; then the rest goes behind them, and in all the same is stored.
pub stored-on : (old all new ws xs rest : List ℕ) (at k : ℕ) → ws ≡ xs ++ rest → k ≡ at + 4 * length xs → new ≡ sets old at (bytes_of_all xs) → sets old at (bytes_of_all ws) ≡ all → sets new k (bytes_of_all rest) ≡ all
stored-on old all new ws xs rest at k e h n w =
    ap (λ (l : List ℕ). sets l k (bytes_of_all rest)) n ∙ sets-words old at xs rest k h ∙ ap (λ (l : List ℕ). sets old at (bytes_of_all l)) (sym e) ∙ w

-- and at the end none are left
pub stored-all : (old all ws : List ℕ) (at : ℕ) → ws ≡ [] → sets old at (bytes_of_all ws) ≡ all → old ≡ all
unfolding bytes_of_all
stored-all old all ws at e w = sym (ap (λ (l : List ℕ). sets old at (bytes_of_all l)) e) ∙ w

-- the links left to store
pub links-on : (bytes way rest : List ℕ) (i l : ℕ) → way ≡ l ∷ rest → way_links bytes i way ≡ link_to bytes l i ++ way_links bytes (i + 1) rest
unfolding way_links
links-on bytes way rest i l e = ap (way_links bytes i) e ∙ ap (λ (k : ℕ). link_to bytes l i ++ way_links bytes k rest) (sym (add-one i))

pub links_end : (bytes way : List ℕ) (i : ℕ) → way ≡ [] → way_links bytes i way ≡ []
unfolding way_links
links_end bytes way i e = ap (way_links bytes i) e
