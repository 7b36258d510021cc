-- The keys of a sheet's links, node by node, are those of its machine. Assumes nothing.
use mathlib.Core.Path.{◌≡◌, sym, ap, ◌∙◌}
use mathlib.Core.List.{List, [], ◌∷◌, ◌++◌, append_assoc, append-nil}
use Prim.Native.Nat.{ℕ, zero, suc, ◌+◌, ◌<◌}
use native.Mathlib.Nat.{add-zero}
use native.Mathlib.Omega.{arith}
use lib.ListN.{length}
use lib.Seq.{sets}
use Rattle.std.specs.Prelude.{Some}
use Rattle.sheet.specs.declared.accepted.Sheet.{Sheet}
use Rattle.sheet.specs.declared.source.Source.{Source}
use Rattle.sheet.specs.declared.source.Sources.{Sources}
use Rattle.sheet.specs.Below.{list_below}
use Rattle.sheet.specs.Records.{count_at, first_link}
use Rattle.sheet.specs.Machine.{Machine, machine}
use Rattle.sheet.specs.NodeSources.{Gives}
use Rattle.sheet.proofs.Below.{length-list_below, list_below-same}
use Rattle.sheet.proofs.Bytes.{sets-append}
use Rattle.sheet.proofs.NodeSources.{next-first}
use Rattle.machine.specs.declared.climbing.Machine.{Machine as Climbing}
use Rattle.machine.specs.Readings.{link}
use Rattle.machine.proofs.Machines.{machine-fields}
use Rattle.machine.proofs.SheetFields.{SheetFields, first-in}
use Rattle.product.specs.Keys.{link_key, link_keys}
use Rattle.link_pairs.specs.Found.{node_keys}

-- a list over a sum of counts, in two
list-split : {A : Type 0} (a b : ℕ) (f : ℕ → A) → list_below (a + b) f ≡ list_below a f ++ list_below b (λ i. f (a + i))
unfolding list_below
list-split a zero f = ap (λ (k : ℕ). list_below k f) (add-zero a) ∙ sym (append-nil (list_below a f))
list-split {A} a (suc b) f =
    ap (λ (k : ℕ). list_below k f) (let e : a + suc b ≡ suc (a + b) = omega arith in e)
    ∙ ap (λ (l : List A). l ++ (f (a + b) ∷ [])) (list-split a b f)
    ∙ append_assoc (list_below a f) (list_below b (λ i. f (a + i))) (f (a + b) ∷ [])

-- the key of link l
abbrev pub key_at : Machine → ℕ → ℕ
key_at m l = link_key (link m l).ilabel (link m l).source l

module _ {bytes : List ℕ} {T N : ℕ} {m : Machine} (f : SheetFields bytes T N m) where
  -- the keys of the links of node v follow those of the nodes before
  node-keys : (v first : ℕ) → v < N → first ≡ first_link bytes T v → list_below first (key_at m) ++ node_keys bytes T v first ≡ list_below (first + count_at bytes T v) (key_at m)
  node-keys v first h e =
      let count = count_at bytes T v in
      let own : node_keys bytes T v first ≡ list_below count (λ i. key_at m (first + i)) =
      list_below-same count _ (λ i. key_at m (first + i)) (λ i o.
      let inside : first + i < T = omega (arith, first-in f (suc v) h, next-first bytes T v) in
      λ j. link_key (f.ilabel-at (first + i) inside j) (sym (f.source-at v (first + i) h (omega arith) (omega arith)) j) (first + i)) in
      ap (λ (l : List ℕ). list_below first (key_at m) ++ l) own ∙ sym (list-split first count (key_at m))

  -- and those of all nodes are all
  pub all-keys : list_below T (key_at m) ≡ link_keys m
  unfolding link_keys
  all-keys = ap (λ (k : ℕ). list_below k (key_at m)) (sym f.links-are)

-- ---- node by node of a machine
module _ (m : Climbing) (it : Sources) (same : it.sheet ≡ m.sheet) where
  abbrev s : Sheet
  s = m.sheet

  abbrev key : ℕ → ℕ
  key = key_at (machine s.bytes.now)

  begins : it.first ≡ first_link s.bytes.now s.links it.node
  begins = it.begins ∙ λ i. first_link (same i).bytes.now (same i).links it.node

  -- behind the last node
  pub all-passed : it.node ≡ it.sheet.nodes → list_below it.first key ≡ link_keys (machine s.bytes.now)
  all-passed e =
      let f = machine-fields m in
      ap (λ (n : ℕ). list_below n key) (begins ∙ ap (first_link s.bytes.now s.links) (e ∙ ap (λ (t : Sheet). t.nodes) same) ∙ f.counted) ∙ all-keys f

  -- from a node to the next
  module _ (source : Source) (after : Sources) (steps : Gives it (Some source) after) where
    abbrev own : List ℕ
    own = node_keys source.sheet.bytes.now source.sheet.links source.node source.first

    inside : it.node < s.nodes
    inside = omega (arith, steps.0, ap (λ (t : Sheet). t.nodes) same)

    ends : after.first ≡ it.first + count_at s.bytes.now s.links it.node
    ends = steps.6 ∙ λ i. it.first + count_at (same i).bytes.now (same i).links it.node

    source-keys : list_below it.first key ++ own ≡ list_below after.first key
    source-keys =
        (λ i. let t : Sheet = (steps.1 ∙ same) i in list_below it.first key ++ node_keys t.bytes.now t.links (steps.2 i) (steps.3 i))
        ∙ node-keys (machine-fields m) it.node it.first inside begins ∙ ap (λ (n : ℕ). list_below n key) (sym ends)

    -- so they are stored behind one another
    pub keys-stored : (old : List ℕ) → sets (sets old 0 (list_below it.first key)) source.first own ≡ sets old 0 (list_below after.first key)
    keys-stored old =
        ap (λ (k : ℕ). sets (sets old 0 (list_below it.first key)) k own) (let e : source.first ≡ 0 + length (list_below it.first key) = omega (arith, steps.3, length-list_below it.first key) in e)
        ∙ sym (sets-append old 0 (list_below it.first key) own)
        ∙ ap (λ (l : List ℕ). sets old 0 l) source-keys
