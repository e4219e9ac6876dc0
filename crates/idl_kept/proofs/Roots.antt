-- What is kept of one root, where results come behind.
use Rattle.std.proofs.Common.{◌≡◌, ◌∙◌, ◌+◌, ◌-◌, ℕ, zero, suc, List, [], ◌∷◌, ◌++◌, Some, append-nil, append_assoc, arith, drop, length, refl, slice_get, subst, sym, take, ap}
use Rattle.std.proofs.lemmas.List.{drop_at, length-append, take_all, take_at}
use Rattle.std.proofs.lemmas.Option.{same_Some}
use Rattle.idl_env.specs.Facts.{UnitFacts}
use Rattle.idl_kept.proofs.Lists.{Behind, InFront, StandsIn, get-behind, get-stays, part-more, stands-in}
use Rattle.idl_kept.specs.Texts.{AreWhole, BlockResult, DeclarationResult, IsPlaced, IsWhole, RootTexts, begins_in, inner_results, unit_results}
use Rattle.idl_root_blocks.specs.Blocks.{Pieces}
use Rattle.idl_root_blocks.specs.Places.{block_at, block_result}

-- it has these results more
pub record HasMore (old new : RootTexts) (units : List DeclarationResult) (blocks : List BlockResult) (begins : List ℕ) : Type 0 where
  pub units_are : new.units ≡ old.units ++ units
  pub blocks_are : new.blocks ≡ old.blocks ++ blocks
  pub begins_are : new.begins ≡ old.begins ++ begins

-- a part that was there is there
pub part-stays : {X : Type 0} (old new more : List X) (place : ℕ) (results : List X) → new ≡ old ++ more → take (length results) (drop place old) ≡ results
    → take (length results) (drop place new) ≡ results
part-stays old new more place results is there =
    ap (λ (xs : List _). take (length results) (drop place xs)) is
    ∙ part-more old more place (length results) (ap (λ (xs : List _). length xs) there) ∙ there

module _ (old new : RootTexts) (units : List DeclarationResult) (blocks : List BlockResult) (begins : List ℕ) (more : HasMore old new units blocks begins) where
  -- a block stays whole
  pub whole-stays : (place : ℕ) (kept : BlockResult) → IsWhole old place kept → IsWhole new place kept
  whole-stays place kept w =
      let results = unit_results w.before w.inside in
      let inner = inner_results w.before w.inside in
      let numbers = begins_in w.begin w.inside in
      record {
        begin = w.begin;
        begins_at = ap (λ (ns : List ℕ). slice_get ns place) more.begins_are ∙ get-stays old.begins begins place w.begin w.begins_at;
        before = w.before;
        inside = w.inside;
        placed = w.placed;
        result = w.result;
        units = part-stays old.units new.units units w.begin results more.units_are w.units;
        after = w.after;
        inner = part-stays old.blocks new.blocks blocks (place - length inner) inner more.blocks_are w.inner;
        begins = part-stays old.begins new.begins begins (place - length numbers) numbers more.begins_are w.begins;
      }

  -- so all blocks are whole where those are that come
  pub are-whole : AreWhole old → length begins ≡ length blocks
      → ((n : ℕ) (kept : BlockResult) → slice_get blocks n ≡ Some kept → IsWhole new (length old.blocks + n) kept) → AreWhole new
  are-whole are long added = record {
    long =
        ap (λ (ns : List ℕ). length ns) more.begins_are ∙ length-append old.begins begins
        ∙ (λ i. are.long i + long i)
        ∙ sym (ap (λ (ks : List BlockResult). length ks) more.blocks_are ∙ length-append old.blocks blocks);
    whole = λ place kept there.
        by place kept (stands-in old.blocks blocks place kept (sym (ap (λ (ks : List BlockResult). slice_get ks place) more.blocks_are) ∙ there));
  }
    where
      by : (place : ℕ) (kept : BlockResult) → StandsIn old.blocks blocks place kept → IsWhole new place kept
      by place kept (InFront there) = whole-stays place kept (are.whole place kept there)
      by place kept (Behind n is there) = subst (λ (p : ℕ). IsWhole new p kept) (sym is) (added n kept there)

-- ---- units come

pub units-come : (root : RootTexts) (more : List DeclarationResult) → AreWhole root → AreWhole (record root { units = root.units ++ more })
units-come root more are =
    are-whole root (record root { units = root.units ++ more }) more [] []
    (record { units_are = refl; blocks_are = sym (append-nil root.blocks); begins_are = sym (append-nil root.begins) })
    are refl (λ n kept there. absurd (none n kept there))
  where
    none : (n : ℕ) (kept : BlockResult) → slice_get [] n ≡ Some kept → ⊥
    none n kept there = cc

-- ---- a block comes that is left

only-first : {X : Type 0} (x y : X) (n : ℕ) → slice_get (x ∷ []) n ≡ Some y → (n ≡ 0) × (x ≡ y)
only-first x y zero h = (refl, same_Some x y h)
only-first x y (suc n) h = absurd (cc)

-- the last ones, as many as these are, are these
last-part : {X : Type 0} (all front last more : List X) → all ≡ front ++ last → take (length last) (drop (length all - length last) (all ++ more)) ≡ last
last-part all front last more is =
    let long = ap (λ (xs : List _). length xs) is ∙ length-append front last in
    let at : length all - length last ≡ length front = omega (arith, long) in
    ap (λ (n : ℕ). take (length last) (drop n (all ++ more))) at
    ∙ ap (λ (xs : List _). take (length last) (drop (length front) (xs ++ more))) is
    ∙ ap (λ (xs : List _). take (length last) (drop (length front) xs)) (append_assoc front last more)
    ∙ ap (take (length last)) (drop_at front (last ++ more) (length front) refl)
    ∙ take_at last more (length last) refl

module _ (root : RootTexts) (are : AreWhole root) (begin : ℕ) (before : List UnitFacts) (inside : Pieces) (placed : IsPlaced before inside) (kept : BlockResult) (result : kept ≡ block_result (block_at before inside))
    (units : drop begin root.units ≡ unit_results before inside) (earlier : List BlockResult) (inner : root.blocks ≡ earlier ++ inner_results before inside)
    (numbers : List ℕ) (begins : root.begins ≡ numbers ++ begins_in begin inside) where
  abbrev with_left : RootTexts
  with_left = record { units = root.units; blocks = root.blocks ++ kept ∷ []; begins = root.begins ++ begin ∷ [] }

  left-whole : IsWhole with_left (length root.blocks) kept
  left-whole =
      let results = unit_results before inside in
      let long : length root.blocks ≡ length root.begins + 0 = omega (arith, are.long) in
      let parts = ap (λ (ks : List BlockResult). length ks) inner ∙ length-append earlier (inner_results before inside) in
      let own = begins_in begin inside in
      record {
        begin = begin;
        begins_at = ap (slice_get (root.begins ++ begin ∷ [])) long ∙ get-behind root.begins (begin ∷ []) 0;
        before = before;
        inside = inside;
        placed = placed;
        result = result;
        units = ap (take (length results)) units ∙ take_all (length results) results (omega arith);
        after = omega (arith, parts);
        inner = last-part root.blocks earlier (inner_results before inside) (kept ∷ []) inner;
        begins =
            ap (λ (n : ℕ). take (length own) (drop (n - length own) (root.begins ++ begin ∷ []))) (sym are.long)
            ∙ last-part root.begins numbers own (begin ∷ []) begins;
      }

  pub block-comes : AreWhole with_left
  block-comes =
      are-whole root with_left [] (kept ∷ []) (begin ∷ []) (record { units_are = sym (append-nil root.units); blocks_are = refl; begins_are = refl }) are refl
      (λ n other there.
      let one = only-first kept other n there in
      let at : length root.blocks ≡ length root.blocks + n = omega (arith, one.0) in
      subst (λ (p : ℕ). IsWhole with_left p other) at (subst (λ (k : BlockResult). IsWhole with_left (length root.blocks) k) one.1 left-whole))
