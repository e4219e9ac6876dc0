-- How expressions, unions and scopes nest in a unit: parts that are bracketed, and leave what stands around them as it is.
use Rattle.idl_tree.specs.DataType.{spell_discrete}
use Rattle.idl_check_laws.proofs.Nests.BracketLemmas.{bracketed-before, bracketed-follow, bracketed-none, bracketed-value, value-sites}
use Rattle.idl_check.specs.walk.Sections.{AreBracketed}
use Rattle.std.proofs.Common.{◌≡◌, ◌∙◌, ℕ, suc, ◌+◌, ◌-◌, ◌≤◌, Bool, true, false, List, [], ◌∷◌, ◌++◌, Option, None, Some, flat_map, map, refl, sym, ap, subst, arith}
use Rattle.std.proofs.lemmas.List.{map-append}
use Rattle.std.proofs.lemmas.List.Elements.{All-head, All-tail}
use Rattle.std.specs.Prelude.{All}
use Rattle.idl_check_laws.proofs.Nests.Scenes.{ArePlaced, AtTop, IsFrom, Scene, last_named, placed-append, scene_after, scenes, scenes-append, IsPlaced}
use Rattle.idl_check_laws.proofs.Nests.LevelSites.{AreFit, AreSame, Around, around_after, arounds, arounds-append, fit-append, is_declared_at, is_inside, is_level_at, is_level_value, opens_union, popped, same-here, IsFit, IsKnown, known-level, level-site}
use Rattle.idl_tree.specs.Lexeme.{Lexemes, Punctuation}
use Rattle.idl_lex.specs.declared.kinds.mark.Mark.TheVariants as mark
use Rattle.idl_parts.specs.ConstructionParts.{base_parts, discriminator_parts}
use Rattle.idl_parts.specs.ExpressionParts.{expression_parts, value_parts}
use Rattle.idl_parts.specs.Item.{Item, item_of, items}
use Rattle.idl_parts.specs.Part.{Part, Parts, Declares, Plain, ScopeBegins, ScopeEnds, ValueEnds, all_parts, if_some, listed, punctuation, Switches, Uses, Part as item}
use Rattle.idl_parts.proofs.ConstructionEquations.{union_brace}
use Rattle.idl_parts.specs.declared.part.Declaration.{Declaration}
use Rattle.idl_parts.specs.declared.part.Declaration.TheVariants as declaration
use Rattle.idl_parts.specs.declared.part.Purpose.{Purpose}
use Rattle.idl_parts.specs.declared.part.Purpose.TheVariants as purpose
use Rattle.idl_parts.specs.declared.part.Use.TheVariants.{AsDiscriminator, AsStructBase}
use Rattle.idl_tree.specs.declared.declarations.construction.Discriminator.{Discriminator}
use Rattle.idl_tree.specs.declared.declarations.construction.Discriminator.TheVariants as discriminator
use Rattle.idl_tree.specs.declared.expression.Expression.{Expression}
use Rattle.idl_tree.specs.declared.name.ScopedName.{ScopedName}
use Rattle.idl_tree.specs.declared.several.Several.{Several}
use Rattle.idl_check_laws.proofs.Nests.Operands.{is_operand, expression-operands, operand-case}

-- ---- parts, one after another

-- parts that fit where so many unions are open, and leave the unions and scopes around as they are; behind this name, if they need one
pub record NestsAt (behind : Option (List ℕ)) (top : Bool) (need : ℕ) (p : Parts) : Type 0 where
  pub bracketed : AreBracketed (items p)
  pub fit : (a : Around) → need ≤ a.unions → AreFit (items p) a
  pub same : (a : Around) → AreSame a (arounds (items p) a)
  pub placed : (s : Scene) → IsFrom behind s → AtTop top s → ArePlaced (items p) s
  pub level : (s : Scene) → (scenes (items p) s).level ≡ s.level

abbrev pub NestsIn : ℕ → Parts → Type 0
NestsIn need p = NestsAt None false need p

abbrev pub Nests : Parts → Type 0
Nests p = NestsIn 0 p

-- and so where more are open
pub lifted : (need : ℕ) (p : Parts) → Nests p → NestsIn need p
lifted need p n = record { bracketed = n.bracketed; fit = λ a h. n.fit a (omega arith); same = n.same; placed = n.placed; level = n.level }

-- and so in no scope
pub topped : (p : Parts) → Nests p → NestsAt None true 0 p
topped p n = record { bracketed = n.bracketed; fit = n.fit; same = n.same; placed = λ s from at. n.placed s from (λ h. cc); level = n.level }

pub none_in : {top : Bool} (need : ℕ) → NestsAt None top need []
none_in need = record { bracketed = bracketed-none; fit = λ a h. tt; same = same-here; placed = λ s from at. tt; level = λ s. refl }

pub none : {top : Bool} → NestsAt None top 0 []
none = none_in 0

pub follow_in : {behind : Option (List ℕ)} {top : Bool} (need : ℕ) (p q : Parts) → NestsAt behind top need p → NestsAt None top need q → NestsAt behind top need (p ++ q)
follow_in need p q m n =
    let sites = map-append item_of p q in
    record {
      bracketed = bracketed-follow p q m.bracketed n.bracketed;
      fit =
          λ a h. subst (λ xs. AreFit xs a) (sym sites)
          (fit-append (items p) (items q) a (m.fit a h) (n.fit (arounds (items p) a) (let e = (m.same a).unions in omega (arith, e, h))));
      same =
          λ a. let b = arounds (items p) a in
          subst (AreSame a) (sym (ap (λ xs. arounds xs a) sites ∙ arounds-append (items p) (items q) a))
          (record { unions = (n.same b).unions ∙ (m.same a).unions; scopes = (n.same b).scopes ∙ (m.same a).scopes });
      placed =
          λ s from at. subst (λ xs. ArePlaced xs s) (sym sites)
          (placed-append (items p) (items q) s (m.placed s from at) (n.placed (scenes (items p) s) tt (λ h. m.level s ∙ at h)));
      level =
          λ s. ap (λ xs. (scenes xs s).level) sites ∙ ap (λ (t : Scene). t.level) (scenes-append (items p) (items q) s)
          ∙ n.level (scenes (items p) s) ∙ m.level s;
    }

pub follow : {behind : Option (List ℕ)} {top : Bool} (p q : Parts) → NestsAt behind top 0 p → NestsAt None top 0 q → NestsAt behind top 0 (p ++ q)
follow p q m n = follow_in 0 p q m n

pub before_in : {top : Bool} (need : ℕ) (x : Part Lexemes) (p : Parts) → is_level_at top (item_of x) ≡ true → NestsAt None top need p → NestsAt None top need (x ∷ p)
before_in {top} need x p at n =
    let site = item_of x in
    let flat = level-site top site at in
    record {
      bracketed = bracketed-before x p flat.single n.bracketed;
      fit = λ a h. (flat.fit a, n.fit (around_after site a) (let e = (flat.same a).unions in omega (arith, e, h)));
      same =
          λ a. let b = around_after site a in
          record { unions = (n.same b).unions ∙ (flat.same a).unions; scopes = (n.same b).scopes ∙ (flat.same a).scopes };
      placed = λ s from t. (flat.placed s t, n.placed (scene_after site s) tt (λ h. flat.level s ∙ t h));
      level = λ s. n.level (scene_after site s) ∙ flat.level s;
    }

pub before : {top : Bool} (x : Part Lexemes) (p : Parts) → is_level_at top (item_of x) ≡ true → NestsAt None top 0 p → NestsAt None top 0 (x ∷ p)
before x p h n = before_in 0 x p h n

-- a name, before what stands behind it
pub declares : {top : Bool} (way : Declaration) (name : List ℕ) (p : Parts) → is_declared_at top way ≡ true → last_named way name ≡ Some name
    → NestsAt (Some name) top 0 p → NestsAt None top 0 (Declares way name ∷ p)
declares {top} way name p at last n = record {
  bracketed = bracketed-before (Declares way name) p refl n.bracketed;
  fit = λ a h. (tt, n.fit a h);
  same = λ a. n.same a;
  placed = λ s from t. ((level-site top (item.Declares way name) at).placed s t, n.placed (record s { last = last_named way name }) last t);
  level = λ s. n.level (record s { last = last_named way name });
}

-- tokens between a name and what stands behind it
pub carry : {behind : Option (List ℕ)} {top : Bool} (words : Lexemes) (p : Parts) → NestsAt behind top 0 p → NestsAt behind top 0 (Plain words ∷ p)
carry words p n = record {
  bracketed = bracketed-before (Plain words) p refl n.bracketed;
  fit = λ a h. (tt, n.fit a h);
  same = λ a. n.same a;
  placed = λ s from t. (tt, n.placed s from t);
  level = λ s. n.level s;
}

-- and so the base of a struct, if it has one
carry_base : {behind : Option (List ℕ)} {top : Bool} (base : ScopedName) (p : Parts) → NestsAt behind top 0 p → NestsAt behind top 0 (Uses AsStructBase base ∷ p)
carry_base base p n = record {
  bracketed = bracketed-before (Uses AsStructBase base) p refl n.bracketed;
  fit = λ a h. (tt, n.fit a h);
  same = λ a. n.same a;
  placed = λ s from t. (tt, n.placed s from t);
  level = λ s. n.level s;
}

pub based : {behind : Option (List ℕ)} {top : Bool} (base : Option ScopedName) (p : Parts) → NestsAt behind top 0 p → NestsAt behind top 0 (if_some base_parts base ++ p)
based None p n = n
based (Some base) p n = carry (Punctuation mark.Colon ∷ []) (Uses AsStructBase base ∷ p) (carry_base base p n)

pub one : {top : Bool} (x : Part Lexemes) → is_level_at top (item_of x) ≡ true → NestsAt None top 0 (x ∷ [])
one x h = before x [] h none

pub ends : {behind : Option (List ℕ)} {top : Bool} (p : Parts) (x : Part Lexemes) → is_level_at top (item_of x) ≡ true → NestsAt behind top 0 p → NestsAt behind top 0 (p ++ x ∷ [])
ends p x h n = follow p (x ∷ []) n (one x h)

pub each : {top : Bool} {X : Type 0} (f : X → Parts) → ((x : X) → NestsAt None top 0 (f x)) → (xs : List X) → NestsAt None top 0 (flat_map f xs)
each f n [] = none
each f n (x ∷ xs) = follow (f x) (flat_map f xs) (n x) (each f n xs)

pub many : {S Y : Type 0} (need : ℕ) (f : Y → Parts) (v : S → Y) → ((s : S) → NestsIn need (f (v s))) → (xs : List S) → NestsIn need (flat_map f (map v xs))
many need f v n [] = none_in need
many need f v n (x ∷ xs) = follow_in need (f (v x)) (flat_map f (map v xs)) (n x) (many need f v n xs)

each_in : {X : Type 0} (need : ℕ) (f : X → Parts) → ((x : X) → NestsIn need (f x)) → (xs : List X) → NestsIn need (flat_map f xs)
each_in need f n [] = none_in need
each_in need f n (x ∷ xs) = follow_in need (f x) (flat_map f xs) (n x) (each_in need f n xs)

pub at_least : {X : Type 0} (need : ℕ) (f : X → Parts) → ((x : X) → NestsIn need (f x)) → (xs : Several X) → NestsIn need (all_parts f xs)
at_least need f n xs = follow_in need (f xs.first) (flat_map f xs.rest) (n xs.first) (each_in need f n xs.rest)

pub several : {top : Bool} {X : Type 0} (f : X → Parts) → ((x : X) → NestsAt None top 0 (f x)) → (xs : Several X) → NestsAt None top 0 (listed f xs)
several f n xs =
    follow (f xs.first) (flat_map (λ x. punctuation mark.Comma ∷ f x) xs.rest) (n xs.first)
    (each (λ x. punctuation mark.Comma ∷ f x) (λ x. before (punctuation mark.Comma) (f x) refl (n x)) xs.rest)

pub maybe : {X : Type 0} (f : X → Parts) → ((x : X) → Nests (f x)) → (x : Option X) → Nests (if_some f x)
maybe f n None = none
maybe f n (Some x) = n x

-- ---- expressions

around-operand : (x : Item) (a : Around) → is_operand x ≡ true → around_after x a ≡ a
around-operand x a = operand-case (λ y. around_after y a ≡ a) (λ n. refl) (λ name. refl) x

scene-operand : (x : Item) (s : Scene) → is_operand x ≡ true → scene_after x s ≡ s
scene-operand x s = operand-case (λ y. scene_after y s ≡ s) (λ n. refl) (λ name. refl) x

-- nothing around changes over operands
pub arounds-operands : (xs : List Item) (a : Around) → All (λ x. is_operand x ≡ true) xs → arounds xs a ≡ a
arounds-operands [] a all = refl
arounds-operands (x ∷ xs) a all =
    ap (arounds xs) (around-operand x a (All-head (λ x. is_operand x ≡ true) x xs all)) ∙ arounds-operands xs a (All-tail (λ x. is_operand x ≡ true) x xs all)

scenes-operands : (xs : List Item) (s : Scene) → All (λ x. is_operand x ≡ true) xs → scenes xs s ≡ s
scenes-operands [] s all = refl
scenes-operands (x ∷ xs) s all =
    ap (scenes xs) (scene-operand x s (All-head (λ x. is_operand x ≡ true) x xs all)) ∙ scenes-operands xs s (All-tail (λ x. is_operand x ≡ true) x xs all)

-- and they fit anywhere
operands-fit : (xs ys : List Item) (a : Around) → All (λ x. is_operand x ≡ true) xs → AreFit ys a → AreFit (xs ++ ys) a
operands-fit [] ys a all h = h
operands-fit (x ∷ xs) ys a all h =
    let operand = All-head (λ x. is_operand x ≡ true) x xs all in (
      operand-case (λ y. IsFit y a) (λ n. tt) (λ name. tt) x operand,
      subst (AreFit (xs ++ ys)) (sym (around-operand x a operand)) (operands-fit xs ys a (All-tail (λ x. is_operand x ≡ true) x xs all) h),
    )

operands-placed : (xs ys : List Item) (s : Scene) → All (λ x. is_operand x ≡ true) xs → ArePlaced ys s → ArePlaced (xs ++ ys) s
operands-placed [] ys s all h = h
operands-placed (x ∷ xs) ys s all h =
    let operand = All-head (λ x. is_operand x ≡ true) x xs all in (
      operand-case (λ y. IsPlaced y s) (λ n. tt) (λ name. tt) x operand,
      subst (ArePlaced (xs ++ ys)) (sym (scene-operand x s operand)) (operands-placed xs ys s (All-tail (λ x. is_operand x ≡ true) x xs all) h),
    )

-- a whole one, where its type is known
valued : (need : ℕ) (way : Purpose) (e : Expression) → ((a : Around) → need ≤ a.unions → IsKnown way a) → NestsIn need (value_parts way e)
valued need way e known =
    let front = items (expression_parts e) in
    let last : List Item = item.ValueEnds way e ∷ [] in
    let operands = expression-operands e in
    let sites = map-append item_of (expression_parts e) (ValueEnds way e ∷ []) in
    record {
      bracketed = bracketed-value way e;
      fit = λ a h. (tt, subst (λ xs. AreFit xs a) (sym sites) (operands-fit front last a operands (known a h, tt)));
      same = λ a. subst (AreSame a) (sym (ap (λ xs. arounds xs a) sites ∙ arounds-append front last a ∙ arounds-operands front a operands)) (same-here a);
      placed = λ s from at. (tt, subst (λ xs. ArePlaced xs s) (sym sites) (operands-placed front last s operands (tt, tt)));
      level = λ s. ap (λ xs. (scenes xs s).level) sites ∙ ap (λ (t : Scene). t.level) (scenes-append front last s ∙ scenes-operands front s operands);
    }

pub expression : (way : Purpose) (e : Expression) → is_level_value way ≡ true → Nests (value_parts way e)
expression way e h = valued 0 way e (λ a n. known-level way a h)

pub label_value : (e : Expression) → NestsIn 1 (value_parts purpose.Label e)
label_value e = valued 1 purpose.Label e (λ a h. h)

-- before other parts
pub value-fits : (way : Purpose) (e : Expression) (q : Parts) (a : Around) → IsKnown way a → AreFit (items q) a → AreFit (items (value_parts way e ++ q)) a
value-fits way e q a known h =
    subst (λ xs. AreFit xs a) (sym (map-append item_of (value_parts way e) q ∙ value-sites way e (items q)))
    (tt, operands-fit (items (expression_parts e)) (item.ValueEnds way e ∷ items q) a (expression-operands e) (known, h))

pub value-placed : (way : Purpose) (e : Expression) (q : Parts) (s : Scene) → ArePlaced (items q) s → ArePlaced (items (value_parts way e ++ q)) s
value-placed way e q s h =
    subst (λ xs. ArePlaced xs s) (sym (map-append item_of (value_parts way e) q ∙ value-sites way e (items q)))
    (tt, operands-placed (items (expression_parts e)) (item.ValueEnds way e ∷ items q) s (expression-operands e) (tt, h))

-- ---- scopes

popped-union : (scopes : List Bool) (b : Around) (rest : List Bool) → scopes ≡ true ∷ rest → ((popped scopes b).unions ≡ b.unions - 1) × ((popped scopes b).scopes ≡ rest)
popped-union [] b rest h = cc
popped-union (true ∷ scopes) b rest h = (refl, cc)
popped-union (false ∷ scopes) b rest h = cc

popped-other : (scopes : List Bool) (b : Around) (rest : List Bool) → scopes ≡ false ∷ rest → ((popped scopes b).unions ≡ b.unions) × ((popped scopes b).scopes ≡ rest)
popped-other [] b rest h = cc
popped-other (true ∷ scopes) b rest h = cc
popped-other (false ∷ scopes) b rest h = (refl, cc)

module _ (need : ℕ) (way : Declaration) (name : List ℕ) (p q : Parts) (n : NestsIn need p) where
  -- a scope, and what stands behind it
  abbrev scoped : Parts
  scoped = ScopeBegins way name ∷ (p ++ ScopeEnds ∷ q)

  abbrev begun : Around → Around
  begun a = record a { scopes = opens_union way ∷ a.scopes }

  -- before its end, and behind
  abbrev last : Around → Around
  last a = arounds (items p) (begun a)

  abbrev behind : Around → Around
  behind a = popped (last a).scopes (last a)

  last-scopes : (a : Around) → (last a).scopes ≡ opens_union way ∷ a.scopes
  last-scopes a = (n.same (begun a)).scopes

  scoped-fit : (a : Around) → need ≤ a.unions → AreFit (items q) (behind a) → AreFit (items scoped) a
  scoped-fit a h k = (
    tt,
    subst (λ xs. AreFit xs (begun a)) (sym (map-append item_of p (ScopeEnds ∷ q)))
        (fit-append (items p) (items (ScopeEnds ∷ q)) (begun a) (n.fit (begun a) h) (ap is_inside (last-scopes a), k)),
  )

  scoped-bracketed : AreBracketed (items q) → AreBracketed (items scoped)
  scoped-bracketed b =
      bracketed-before (ScopeBegins way name) (p ++ ScopeEnds ∷ q) refl (bracketed-follow p (ScopeEnds ∷ q) n.bracketed (bracketed-before ScopeEnds q refl b))

  scoped-around : (a : Around) → arounds (items scoped) a ≡ arounds (items q) (behind a)
  scoped-around a =
      ap (λ xs. arounds xs (begun a)) (map-append item_of p (ScopeEnds ∷ q)) ∙ arounds-append (items p) (items (ScopeEnds ∷ q)) (begun a)

  behind-other : opens_union way ≡ false → (a : Around) → ((behind a).unions ≡ a.unions) × ((behind a).scopes ≡ a.scopes)
  behind-other other a =
      let back = popped-other (last a).scopes (last a) a.scopes (last-scopes a ∙ ap (λ s. s ∷ a.scopes) other) in
      (back.0 ∙ (n.same (begun a)).unions, back.1)

  behind-union : opens_union way ≡ true → (a : Around) → ((behind a).unions ≡ a.unions - 1) × ((behind a).scopes ≡ a.scopes)
  behind-union union a =
      let back = popped-union (last a).scopes (last a) a.scopes (last-scopes a ∙ ap (λ s. s ∷ a.scopes) union) in
      (back.0 ∙ ap (λ k. k - 1) (n.same (begun a)).unions, back.1)

  abbrev begun_scene : Scene → Scene
  begun_scene s = record { level = suc s.level; last = None }

  abbrev behind_scene : Scene → Scene
  behind_scene s = record { level = (scenes (items p) (begun_scene s)).level - 1; last = None }

  scoped-placed : (s : Scene) → s.last ≡ Some name → ArePlaced (items q) (behind_scene s) → ArePlaced (items scoped) s
  scoped-placed s from k = (
    from,
    subst (λ xs. ArePlaced xs (begun_scene s)) (sym (map-append item_of p (ScopeEnds ∷ q)))
        (placed-append (items p) (items (ScopeEnds ∷ q)) (begun_scene s) (n.placed (begun_scene s) tt (λ h. cc)) (let e = n.level (begun_scene s) in omega (arith, e), k)),
  )

  behind-level : (s : Scene) → (behind_scene s).level ≡ s.level
  behind-level s = let e = n.level (begun_scene s) in omega (arith, e)

  scoped-level : ((t : Scene) → (scenes (items q) t).level ≡ t.level) → (s : Scene) → (scenes (items scoped) s).level ≡ s.level
  scoped-level k s =
      ap (λ xs. (scenes xs (begun_scene s)).level) (map-append item_of p (ScopeEnds ∷ q))
      ∙ ap (λ (t : Scene). t.level) (scenes-append (items p) (items (ScopeEnds ∷ q)) (begun_scene s))
      ∙ k (behind_scene s) ∙ behind-level s

-- a scope that is no union's
pub scope : {top : Bool} (way : Declaration) (name : List ℕ) (p q : Parts) → opens_union way ≡ false → Nests p → Nests q → NestsAt (Some name) top 0 (ScopeBegins way name ∷ (p ++ ScopeEnds ∷ q))
scope way name p q other n m = record {
  bracketed = scoped-bracketed 0 way name p q n m.bracketed;
  fit = λ a h. scoped-fit 0 way name p q n a h (m.fit (behind 0 way name p q n a) (omega arith));
  same =
      λ a. let b = behind 0 way name p q n a in
      let back = behind-other 0 way name p q n other a in
      subst (AreSame a) (sym (scoped-around 0 way name p q n a)) (record { unions = (m.same b).unions ∙ back.0; scopes = (m.same b).scopes ∙ back.1 });
  placed = λ s from at. scoped-placed 0 way name p q n s from (m.placed (behind_scene 0 way name p q n s) tt (λ h. cc));
  level = scoped-level 0 way name p q n m.level;
}

-- the body of a union, for which one more is open before it
pub record UnionNests (name : List ℕ) (p : Parts) : Type 0 where
  pub bracketed : AreBracketed (items p)
  pub placed : (s : Scene) → s.last ≡ Some name → ArePlaced (items p) s
  pub level : (s : Scene) → (scenes (items p) s).level ≡ s.level
  pub fit : (a : Around) → 1 ≤ a.unions → AreFit (items p) a
  pub unions : (a : Around) → (arounds (items p) a).unions ≡ a.unions - 1
  pub scopes : (a : Around) → (arounds (items p) a).scopes ≡ a.scopes

pub union_scope : (name : List ℕ) (p q : Parts) → NestsIn 1 p → Nests q → UnionNests name (ScopeBegins declaration.Union name ∷ (p ++ ScopeEnds ∷ q))
union_scope name p q n m = record {
  bracketed = scoped-bracketed 1 declaration.Union name p q n m.bracketed;
  placed = λ s from. scoped-placed 1 declaration.Union name p q n s from (m.placed (behind_scene 1 declaration.Union name p q n s) tt (λ h. cc));
  level = scoped-level 1 declaration.Union name p q n m.level;
  fit = λ a h. scoped-fit 1 declaration.Union name p q n a h (m.fit (behind 1 declaration.Union name p q n a) (omega arith));
  unions =
      λ a. ap (λ (x : Around). x.unions) (scoped-around 1 declaration.Union name p q n a)
      ∙ (m.same (behind 1 declaration.Union name p q n a)).unions ∙ (behind-union 1 declaration.Union name p q n refl a).0;
  scopes =
      λ a. ap (λ (x : Around). x.scopes) (scoped-around 1 declaration.Union name p q n a)
      ∙ (m.same (behind 1 declaration.Union name p q n a)).scopes ∙ (behind-union 1 declaration.Union name p q n refl a).1;
}

brace-bracketed : (name : List ℕ) (p : Parts) → AreBracketed (items (ScopeBegins declaration.Union name ∷ p)) → AreBracketed (items (union_brace name ++ p))
brace-bracketed name p b = bracketed-before (Plain (Punctuation mark.CloseParenthesis ∷ Punctuation mark.OpenBrace ∷ [])) (ScopeBegins declaration.Union name ∷ p) refl b

-- behind its discriminator
pub discriminated : (d : Discriminator) (name : List ℕ) (p : Parts) → UnionNests name (ScopeBegins declaration.Union name ∷ p) → NestsAt (Some name) false 0 (discriminator_parts d ++ (union_brace name ++ p))
discriminated (discriminator.Discrete d) name p u = record {
  bracketed =
      bracketed-before (Switches d) (Plain (spell_discrete d) ∷ (union_brace name ++ p)) refl
      (bracketed-before (Plain (spell_discrete d)) (union_brace name ++ p) refl (brace-bracketed name p u.bracketed));
  placed = λ s from at. (tt, (tt, (tt, u.placed s from)));
  level = λ s. u.level s;
  fit = λ a h. (tt, (tt, (tt, u.fit (record a { unions = a.unions + 1 }) (omega arith))));
  same = λ a. record {
    unions = let e = u.unions (record a { unions = a.unions + 1 }) in omega (arith, e);
    scopes = u.scopes (record a { unions = a.unions + 1 });
  };
}
discriminated (discriminator.Name n) name p u = record {
  bracketed = bracketed-before (Uses AsDiscriminator n) (union_brace name ++ p) refl (brace-bracketed name p u.bracketed);
  placed = λ s from at. (tt, (tt, u.placed s from));
  level = λ s. u.level s;
  fit = λ a h. (tt, (tt, u.fit (record a { unions = a.unions + 1 }) (omega arith)));
  same = λ a. record {
    unions = let e = u.unions (record a { unions = a.unions + 1 }) in omega (arith, e);
    scopes = u.scopes (record a { unions = a.unions + 1 });
  };
}
