-- What is put into an area, and how many bytes are there then. Assumes nothing.
use Rattle.std.proofs.Common.{◌≡◌, ℕ, zero, suc, ◌+◌, ◌-◌, ◌*◌, ◌<◌, List, [], ◌∷◌, ◌++◌, refl, sym, ap, length, get_or, arith}
use Rattle.std.proofs.lemmas.List.{length-append, length-set, length-take-le}
use Rattle.stored_cases.specs.declared.filled.Filled.{Filled}
use Rattle.stored_cases.specs.Parts.{again, raised, raised_again}
use Rattle.stored_cases.specs.Filled.{filled, Fills}

-- one turn more
pub again-more : (back more turn : ℕ) (bytes : List ℕ) → turn < more → again back (more - turn) bytes ≡ again back (more - (turn + 1)) (bytes ++ get_or bytes (length bytes - back) 0 ∷ [])
unfolding again
again-more back more turn bytes h = let e : more - turn ≡ suc (more - (turn + 1)) = omega arith in ap (λ k. again back k bytes) e

pub again-end : (back : ℕ) (bytes : List ℕ) → again back 0 bytes ≡ bytes
unfolding again
again-end back bytes = refl

pub raised-more : (back times turn : ℕ) (bytes : List ℕ) → turn < times → raised_again back (times - turn) bytes ≡ raised_again back (times - (turn + 1)) (raised (again back back bytes))
unfolding raised_again
raised-more back times turn bytes h = let e : times - turn ≡ suc (times - (turn + 1)) = omega arith in ap (λ k. raised_again back k bytes) e

pub raised-end : (back : ℕ) (bytes : List ℕ) → raised_again back 0 bytes ≡ bytes
unfolding raised_again
raised-end back bytes = refl

-- ---- how many they are
pub length-again : (back more : ℕ) (bytes : List ℕ) → length (again back more bytes) ≡ length bytes + more
unfolding again
length-again back zero bytes = omega arith
length-again back (suc more) bytes =
    let next = bytes ++ get_or bytes (length bytes - back) 0 ∷ [] in omega (arith, length-again back more next, length-append bytes (get_or bytes (length bytes - back) 0 ∷ []))

length-raised : (bytes : List ℕ) → length (raised bytes) ≡ length bytes
length-raised bytes = simp length-set

pub length-raised_again : (back times : ℕ) (bytes : List ℕ) → length (raised_again back times bytes) ≡ length bytes + times * back
unfolding raised_again
length-raised_again back zero bytes = omega arith
length-raised_again back (suc times) bytes = omega (arith, length-raised_again back times (raised (again back back bytes)), length-raised (again back back bytes), length-again back back bytes)

-- the count is that of the bytes
pub count-filled : (f : Filled) → f.count ≡ length (filled f)
count-filled f = sym (length-take-le f.count f.area.now f.within)

pub count-put : (old new : Filled) (value : ℕ) → Fills old new (filled old ++ value ∷ []) → new.count ≡ old.count + 1
count-put old new value f = omega (arith, count-filled new, count-filled old, ap length f.bytes_are, length-append (filled old) (value ∷ []))

pub count-again : (old new : Filled) (back more : ℕ) → Fills old new (again back more (filled old)) → new.count ≡ old.count + more
count-again old new back more f = omega (arith, count-filled new, count-filled old, ap length f.bytes_are, length-again back more (filled old))

pub count-raised : (old new : Filled) → Fills old new (raised (filled old)) → new.count ≡ old.count
count-raised old new f = omega (arith, count-filled new, count-filled old, ap length f.bytes_are, length-raised (filled old))

pub count-raised_again : (old new : Filled) (back times : ℕ) → Fills old new (raised_again back times (filled old)) → new.count ≡ old.count + times * back
count-raised_again old new back times f = omega (arith, count-filled new, count-filled old, ap length f.bytes_are, length-raised_again back times (filled old))
