-- What the answers over facts keep, whatever is added: an entity stands under its own path, and its bases are among those that
-- the facts name.
use Rattle.std.proofs.Common.{◌≡◌, ◌⊎◌, ℕ, Bool, true, false, cond, List, [], ◌∷◌, Option, Some, None, refl, ap, ◌∙◌, sym, inl, inr, subst}
use Rattle.std.specs.Prelude.{flat_map}
use Rattle.idl_lex.specs.kinds.Keywords.{folded}
use Rattle.idl_env.specs.Turns.{bases_in, bases_among, bases_named, declared_in, declared_among, declared_named}
use Rattle.idl_env.specs.Facts.{UnitFacts, World, entity_key, entity_in, scopes_in, key_of, answer_of, addition_at, over, unstopped, with_answer, with_additions, first_answer, first_world, given_back, with_prefix, closed, closing, after_closing, after_opening, after_nameless, after_step, after, after_all, world, answers}
use Rattle.idl_entity.specs.Identity.{fixed_for, no_prefix, prefix_for}
use Rattle.idl_env.specs.keys.Key.{key_eq}
use Rattle.idl_env.specs.declared.keys.key.Key.{Key}
use Rattle.idl_env.specs.declared.keys.key.Key.TheVariants.{Cursor, Declared, Introduced, Opened, Nameless, Prefix as PrefixKey, IdOf, Typeprefix}
use Rattle.idl_env.specs.SameKey.{same_key}
use Rattle.idl_entity.specs.Kind.{kind_eq, has_bases}
use Rattle.idl_scope.specs.Lookup.{bases_of}
use Rattle.idl_scope.specs.Meaning.{own_at, bases_at}
use Rattle.idl_entity.specs.Path.{name_of, scope_of}
use Rattle.idl_env.specs.declared.additions.addition.Addition.{Addition}
use Rattle.idl_env.specs.declared.additions.addition.Addition.TheVariants.{Declares, Uses, UsesFurther, Appears, Identifies, TypePrefixes}
use Rattle.idl_env.specs.declared.additions.addition.Step.{Step}
use Rattle.idl_env.specs.declared.additions.addition.Step.TheVariants.{Stays, Opens, OpensNameless, Closes, Prefixes, Enters, Leaves}
use Rattle.idl_env.specs.declared.answering.answer.Answer.{Answer}
use Rattle.idl_env.specs.declared.answering.answer.Answer.TheVariants.{Open, Known, Used, Count, InForce, Appeared, Identified, Prefixed}
use Rattle.idl_env.specs.declared.answering.answer.Scope.{Scope}
use Rattle.idl_entity.specs.declared.entity.Entity.{Entity}
use Rattle.idl_entity.specs.declared.identity.FixedIdentity.{FixedIdentity}
use Rattle.idl_entity.specs.declared.identity.Prefix.{Prefix}
use Rattle.idl_entity.specs.declared.kind.Kind.TheVariants.{Interface}
use Rattle.idl_scope.proofs.Constructors.{none_some, some_same}
use Rattle.idl_env.proofs.StoppedLemmas.{unstopped-in}
use Rattle.idl_env.proofs.Membership.{IsIn, IsIn-left, IsIn-right}

known_same : (e f : Entity) → Known e ≡ Known f → e ≡ f
known_same e f h = cc

pub entity_in-Some : (v : Option Answer) (e : Entity) → entity_in v ≡ Some e → v ≡ Some (Known e)
entity_in-Some None e h = absurd (none_some h)
entity_in-Some (Some (Known x)) e h = ap (λ y. Some (Known y)) (some_same h)
entity_in-Some (Some (Open s)) e h = absurd (none_some h)
entity_in-Some (Some Used) e h = absurd (none_some h)
entity_in-Some (Some (Count n)) e h = absurd (none_some h)
entity_in-Some (Some (InForce prefix)) e h = absurd (none_some h)
entity_in-Some (Some (Appeared prefix)) e h = absurd (none_some h)
entity_in-Some (Some (Identified identity)) e h = absurd (none_some h)
entity_in-Some (Some (Prefixed text)) e h = absurd (none_some h)

-- ---- answers over additions

-- where an addition is found, it is at its own key
pub addition_at-Some : (additions : List Addition) (k : Key) (a : Addition) → addition_at additions k ≡ Some a → IsIn a additions × (k ≡ key_of a)
addition_at-Some [] k a h = absurd (none_some h)
addition_at-Some (b ∷ additions) k a h = by_test (key_eq k (key_of b)) refl (addition_at-Some additions k a) h
  where
    by_test : (t : Bool) → key_eq k (key_of b) ≡ t → (addition_at additions k ≡ Some a → IsIn a additions × (k ≡ key_of a)) → cond t (Some b) (addition_at additions k) ≡ Some a → IsIn a (b ∷ additions) × (k ≡ key_of a)
    by_test true e rest g = (inl (some_same g), same_key k (key_of b) e ∙ ap key_of (some_same g))
    by_test false e rest g = let r = rest g in (inr r.0, r.1)

-- an answer over additions is that of one of them at its key, or was there
over-Some : (additions : List Addition) (k : Key) (before : Option Answer) (x : Answer) → over additions k before ≡ Some x
    → ((a : Addition) × IsIn a additions × (k ≡ key_of a) × (answer_of a ≡ x)) ⊎ (before ≡ Some x)
over-Some additions k before x h = by_addition (addition_at additions k) refl h
  where
    by_addition : (o : Option Addition) → addition_at additions k ≡ o → elim o as (λ _. Option Answer) [ None ↦ before | Some a ↦ Some (answer_of a) ] ≡ Some x
        → ((a : Addition) × IsIn a additions × (k ≡ key_of a) × (answer_of a ≡ x)) ⊎ (before ≡ Some x)
    by_addition None e g = inr g
    by_addition (Some a) e g = let r = addition_at-Some additions k a e in inl (a, r.0, r.1, some_same g)

-- ---- what is kept

-- an entity stands under its own path, and such parts of it are among these
abbrev pub IsGroundedBy : (Entity → List (List (List ℕ))) → List (List (List ℕ)) → Key → Answer → Type 0
IsGroundedBy parts places k x = (e : Entity) → x ≡ Known e → (k ≡ entity_key e.path) × ((c : List (List ℕ)) → IsIn c (parts e) → IsIn c places)

abbrev pub AreGroundedBy : (Entity → List (List (List ℕ))) → List (List (List ℕ)) → (Key → Option Answer) → Type 0
AreGroundedBy parts places answers = (k : Key) (x : Answer) → answers k ≡ Some x → IsGroundedBy parts places k x

-- its bases
abbrev pub AreGrounded : List (List (List ℕ)) → (Key → Option Answer) → Type 0
AreGrounded places answers = AreGroundedBy (λ e. e.bases) places answers

-- its path
abbrev pub own_place : Entity → List (List (List ℕ))
own_place e = e.path ∷ []

abbrev pub AreDeclared : List (List (List ℕ)) → (Key → Option Answer) → Type 0
AreDeclared places answers = AreGroundedBy own_place places answers

-- the same, among more places
pub wider-grounded : (parts : Entity → List (List (List ℕ))) (places more : List (List (List ℕ))) → ((c : List (List ℕ)) → IsIn c places → IsIn c more) → (answers : Key → Option Answer) → AreGroundedBy parts places answers → AreGroundedBy parts more answers
wider-grounded parts places more within answers g k x h e same = let r = g k x h e same in (r.0, λ c i. within c (r.1 c i))

-- the parts of what an addition declares are among these
abbrev pub HasPartsIn : (Entity → List (List (List ℕ))) → List (List (List ℕ)) → Addition → Type 0
HasPartsIn parts places a = (e : Entity) → a ≡ Declares e → (c : List (List ℕ)) → IsIn c (parts e) → IsIn c places

pub declares_same : (d e : Entity) → Declares d ≡ Declares e → d ≡ e
declares_same d e h = cc

module _ (parts : Entity → List (List (List ℕ))) (places : List (List (List ℕ))) where
  no_entity_open : (k : Key) (scopes : List Scope) → IsGroundedBy parts places k (Open scopes)
  no_entity_open k scopes e h = absurd (let z : Open scopes ≡ Known e = h in cc)

  no_entity_used : (k : Key) → IsGroundedBy parts places k Used
  no_entity_used k e h = absurd (let z : Used ≡ Known e = h in cc)

  no_entity_count : (k : Key) (n : ℕ) → IsGroundedBy parts places k (Count n)
  no_entity_count k n e h = absurd (let z : Count n ≡ Known e = h in cc)

  no_entity_prefix : (k : Key) (prefix : Prefix) → IsGroundedBy parts places k (InForce prefix)
  no_entity_prefix k prefix e h = absurd (let z : InForce prefix ≡ Known e = h in cc)

  no_entity_first : (k : Key) (prefix : Prefix) → IsGroundedBy parts places k (Appeared prefix)
  no_entity_first k prefix e h = absurd (let z : Appeared prefix ≡ Known e = h in cc)

  no_entity_identity : (k : Key) (fixed : FixedIdentity) → IsGroundedBy parts places k (Identified fixed)
  no_entity_identity k fixed e h = absurd (let z : Identified fixed ≡ Known e = h in cc)

  no_entity_typeprefix : (k : Key) (text : List ℕ) → IsGroundedBy parts places k (Prefixed text)
  no_entity_typeprefix k text e h = absurd (let z : Prefixed text ≡ Known e = h in cc)

  -- an addition whose parts are among these leaves such an answer
  pub addition-grounded : (a : Addition) → HasPartsIn parts places a → IsGroundedBy parts places (key_of a) (answer_of a)
  addition-grounded (Declares d) within e h =
      let same = known_same d e h in
      (ap (λ x. entity_key x.path) same, λ c i. within d refl c (let Q : Entity → Type 0 = λ x. IsIn c (parts x) in subst Q (sym same) i))
  addition-grounded (Uses n path body) within e h = no_entity_used (Introduced n path body) e h
  addition-grounded (UsesFurther n path further) within e h = no_entity_used (Introduced n path further.body) e h
  addition-grounded (Appears path prefix) within e h = no_entity_first (IdOf path) (prefix_for path prefix) e h
  addition-grounded (Identifies path identity) within e h = no_entity_identity (IdOf path) (fixed_for path identity) e h
  addition-grounded (TypePrefixes path text) within e h = no_entity_typeprefix (Typeprefix path) text e h

  pub over-grounded : (additions : List Addition) (answers : Key → Option Answer) → AreGroundedBy parts places answers → ((a : Addition) → IsIn a additions → IsGroundedBy parts places (key_of a) (answer_of a)) → AreGroundedBy parts places (λ k. over additions k (answers k))
  over-grounded additions answers before new k x h = elim (over-Some additions k (answers k) x h) as (λ _. IsGroundedBy parts places k x) [
    | inl r ↦ (let Q : Key → Type 0 = λ q. IsGroundedBy parts places q (answer_of r.0) in let g = subst Q (sym r.2) (new r.0 r.1) in let R : Answer → Type 0 = IsGroundedBy parts places k in subst R r.3 g)
    | inr b ↦ before k x b
  ]

  with_answer-grounded : (k : Key) (a : Answer) (answers : Key → Option Answer) → IsGroundedBy parts places k a → AreGroundedBy parts places answers → AreGroundedBy parts places (with_answer k a answers)
  with_answer-grounded k a answers new before q x h = by_test (key_eq q k) refl h
    where
      by_test : (t : Bool) → key_eq q k ≡ t → cond t (Some a) (answers q) ≡ Some x → IsGroundedBy parts places q x
      by_test true e g = let Q : Key → Type 0 = λ r. IsGroundedBy parts places r a in let R : Answer → Type 0 = IsGroundedBy parts places q in subst R (some_same g) (subst Q (sym (same_key q k e)) new)
      by_test false e g = before q x g

  pub first-grounded : AreGroundedBy parts places first_answer
  first-grounded Cursor x h = let R : Answer → Type 0 = IsGroundedBy parts places Cursor in subst R (some_same h) (no_entity_open Cursor _)
  first-grounded PrefixKey x h = let R : Answer → Type 0 = IsGroundedBy parts places PrefixKey in subst R (some_same h) (no_entity_prefix PrefixKey no_prefix)
  first-grounded other x h = absurd (none_some h)

  with_prefix-grounded : (prefix : Prefix) (answers : Key → Option Answer) → AreGroundedBy parts places answers → AreGroundedBy parts places (with_prefix prefix answers)
  with_prefix-grounded prefix answers g = with_answer-grounded PrefixKey (InForce prefix) answers (no_entity_prefix PrefixKey prefix) g

  after_opening-grounded : (w : World) (s : Scope) → AreGroundedBy parts places w.answers → AreGroundedBy parts places (after_opening w s).answers
  after_opening-grounded w s g = with_answer-grounded Cursor _ _ (no_entity_open Cursor _) (with_answer-grounded (Opened s.path) (Count s.body) w.answers (no_entity_count (Opened s.path) s.body) g)

  -- a closed entity has no other parts
  abbrev KeepsClosing : Type 0
  KeepsClosing = (w : World) (e : Entity) (c : List (List ℕ)) → IsIn c (parts (closed w e)) → IsIn c (parts e)

  -- what the closing of an interface declares is the entity that is there, closed
  closing-grounded : KeepsClosing → (w : World) (s : Scope) → AreGroundedBy parts places w.answers → (a : Addition) → IsIn a (closing w s) → IsGroundedBy parts places (key_of a) (answer_of a)
  closing-grounded keeps w s g a i = by_kind (kind_eq s.kind Interface) i
    where
      at_entity : (o : Option Entity) → entity_in (w.answers (entity_key s.path)) ≡ o → IsIn a (elim o as (λ _. List Addition) [ None ↦ [] | Some e ↦ Declares (closed w e) ∷ [] ]) → IsGroundedBy parts places (key_of a) (answer_of a)
      at_entity None e j = absurd j
      at_entity (Some e) h (inl same) =
          let Q : Addition → Type 0 = λ b. IsGroundedBy parts places (key_of b) (answer_of b) in
          subst Q same (addition-grounded (Declares (closed w e)) (λ f is c j. (g (entity_key s.path) (Known e) (entity_in-Some (w.answers (entity_key s.path)) e h) e refl).1 c
          (keeps w e c (let R : Entity → Type 0 = λ x. IsIn c (parts x) in subst R (sym (declares_same (closed w e) f is)) j))))
      at_entity (Some e) h (inr j) = absurd j

      by_kind : (t : Bool) → IsIn a (cond t (elim (entity_in (w.answers (entity_key s.path))) as (λ _. List Addition) [ None ↦ [] | Some e ↦ Declares (closed w e) ∷ [] ]) []) → IsGroundedBy parts places (key_of a) (answer_of a)
      by_kind true j = at_entity (entity_in (w.answers (entity_key s.path))) refl j
      by_kind false j = absurd j

  after_closing-grounded : KeepsClosing → (w : World) (scopes : List Scope) → AreGroundedBy parts places w.answers → AreGroundedBy parts places (after_closing w scopes).answers
  after_closing-grounded keeps w [] g = g
  after_closing-grounded keeps w (s ∷ []) g = g
  after_closing-grounded keeps w (s ∷ t ∷ outer) g =
      with_prefix-grounded (given_back w.before.opened) _
      (with_answer-grounded Cursor _ _ (no_entity_open Cursor _) (over-grounded (closing w s) w.answers g (closing-grounded keeps w s g)))

  after_step-grounded : KeepsClosing → (w : World) (step : Step) → AreGroundedBy parts places w.answers → AreGroundedBy parts places (after_step w step).answers
  after_step-grounded keeps w Stays g = g
  after_step-grounded keeps w (Opens path kind) g = after_opening-grounded w _ g
  after_step-grounded keeps w (OpensNameless kind) g = after_opening-grounded (after_nameless w) _ (with_answer-grounded Nameless _ w.answers (no_entity_count Nameless _) g)
  after_step-grounded keeps w Closes g = after_closing-grounded keeps w (scopes_in (w.answers Cursor)) g
  after_step-grounded keeps w (Prefixes text) g = with_prefix-grounded _ w.answers g
  after_step-grounded keeps w Enters g = with_prefix-grounded no_prefix w.answers g
  after_step-grounded keeps w Leaves g = with_prefix-grounded (given_back w.before.entered) w.answers g

  after-grounded : KeepsClosing → (w : World) (f : UnitFacts) → ((a : Addition) → IsIn a f.additions → HasPartsIn parts places a) → AreGroundedBy parts places w.answers → AreGroundedBy parts places (after w f).answers
  after-grounded keeps w f within g = after_step-grounded keeps (with_additions f.additions w) f.step (over-grounded (unstopped w.answers f.additions) w.answers g (λ a i. addition-grounded a (within a (unstopped-in w.answers a f.additions i))))

  pub after_all-grounded : KeepsClosing → (w : World) (facts : List UnitFacts) → ((f : UnitFacts) → IsIn f facts → (a : Addition) → IsIn a f.additions → HasPartsIn parts places a) → AreGroundedBy parts places w.answers → AreGroundedBy parts places (after_all w facts).answers
  after_all-grounded keeps w [] within g = g
  after_all-grounded keeps w (f ∷ facts) within g = after_all-grounded keeps (after w f) facts (λ h i. within h (inr i)) (after-grounded keeps w f (within f (inl refl)) g)

pub flat_map-in : {A B : Type 0} (f : A → List B) (xs : List A) (x : A) (y : B) → IsIn x xs → IsIn y (f x) → IsIn y (flat_map f xs)
flat_map-in f [] x y i j = absurd i
flat_map-in f (z ∷ xs) x y (inl e) j = IsIn-left y (f z) (flat_map f xs) (let Q : _ → Type 0 = λ w. IsIn y (f w) in subst Q (sym e) j)
flat_map-in f (z ∷ xs) x y (inr i) j = IsIn-right y (f z) (flat_map f xs) (flat_map-in f xs x y i j)

-- what a list of additions declares
bases-of : (a : Addition) → HasPartsIn (λ e. e.bases) (bases_in a) a
bases-of a e is c i = let Q : Addition → Type 0 = λ b. IsIn c (bases_in b) in subst Q (sym is) i

place-of : (a : Addition) → HasPartsIn own_place (declared_in a) a
place-of a e is c i = let Q : Addition → Type 0 = λ b. IsIn c (declared_in b) in subst Q (sym is) i

pub bases-among : (own : List Addition) (a : Addition) → IsIn a own → HasPartsIn (λ e. e.bases) (bases_among own) a
bases-among own a i e is c j = flat_map-in bases_in own a c i (bases-of a e is c j)

pub places-among : (own : List Addition) (a : Addition) → IsIn a own → HasPartsIn own_place (declared_among own) a
places-among own a i e is c j = flat_map-in declared_in own a c i (place-of a e is c j)

-- the answers over facts are so, by the bases that the facts name, and by what they declare
pub answers-grounded : (facts : List UnitFacts) → AreGrounded (bases_named facts) (answers facts)
unfolding world
answers-grounded facts = after_all-grounded (λ e. e.bases) (bases_named facts) (λ w e c i. i) first_world facts
    (λ f i a j e is c k. flat_map-in (λ g. bases_among g.additions) facts f c i (bases-among f.additions a j e is c k)) (first-grounded (λ e. e.bases) (bases_named facts))

pub answers-declared : (facts : List UnitFacts) → AreDeclared (declared_named facts) (answers facts)
unfolding world
answers-declared facts = after_all-grounded own_place (declared_named facts) (λ w e c i. i) first_world facts
    (λ f i a j e is c k. flat_map-in (λ g. declared_among g.additions) facts f c i (places-among f.additions a j e is c k)) (first-grounded own_place (declared_named facts))

-- ---- what lookup needs of such answers

name_same : (n m : List ℕ) (p q : List (List ℕ)) → Declared n p ≡ Declared m q → n ≡ m
name_same n m p q h = cc

declared_same : (n m : List ℕ) (p q : List (List ℕ)) → Declared n p ≡ Declared m q → p ≡ q
declared_same n m p q h = cc

module _ (places : List (List (List ℕ))) (bank : Key → Option Answer) (g : AreGrounded places bank) where
  -- what a scope declares stands in it
  pub own_at-home : (n : List ℕ) (b : List (List ℕ)) (e : Entity) → own_at bank n b ≡ Some e → scope_of e.path ≡ b
  own_at-home n b e h = sym (declared_same n (folded (name_of e.path)) b (scope_of e.path) (g (Declared n b) (Known e) (entity_in-Some (bank (Declared n b)) e h) e refl).0)

  -- under its own name
  pub own_at-name : (n : List ℕ) (b : List (List ℕ)) (e : Entity) → own_at bank n b ≡ Some e → folded (name_of e.path) ≡ n
  own_at-name n b e h = sym (name_same n (folded (name_of e.path)) b (scope_of e.path) (g (Declared n b) (Known e) (entity_in-Some (bank (Declared n b)) e h) e refl).0)

  -- the bases at a path are among those
  pub bases_at-within : (b c : List (List ℕ)) → IsIn c (bases_at bank b) → IsIn c places
  bases_at-within b c i = by_entity (entity_in (bank (entity_key b))) refl i
    where
      counted : (e : Entity) (t : Bool) → ((d : List (List ℕ)) → IsIn d e.bases → IsIn d places) → IsIn c (cond t e.bases []) → IsIn c places
      counted e true within j = within c j
      counted e false within j = absurd j

      by_entity : (o : Option Entity) → entity_in (bank (entity_key b)) ≡ o → IsIn c (bases_of o) → IsIn c places
      by_entity None h j = absurd j
      by_entity (Some e) h j = counted e (has_bases e.stage) (g (entity_key b) (Known e) (entity_in-Some (bank (entity_key b)) e h) e refl).1 j
