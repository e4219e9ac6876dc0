-- What facts keep that verdicts tell: where names are declared, and what open interfaces have.
use Rattle.std.proofs.Common.{◌≡◌, ◌⊎◌, ◌∙◌, ℕ, ◌≤◌, ◌<◌, suc, Bool, true, false, cond, List, [], ◌∷◌, ◌++◌, length, Option, Some, None, refl, sym, ap, subst, arith, inl, inr}
use Rattle.std.proofs.lemmas.List.{append-nil}
use Rattle.std.specs.Prelude.{◌≢◌, Contains, nat_eq}
use Rattle.idl_check_laws.proofs.Fits.ReachedLaws.{AreWhole, IsClosed, IsClosedAt, Keeps, Names, Place, kept-at, kept-whole, only, own, there, through-back}
use Rattle.idl_lex.specs.kinds.Keywords.{folded}
use Rattle.idl_scope.proofs.Constructors.{some_same, none_some}
use Rattle.idl_env.proofs.Membership.{IsIn, IsIn-left, IsIn-right, IsIn-split}
use Rattle.idl_scope.proofs.Worlds.{addition_at-Some}
use Rattle.idl_env.specs.keys.Digested.{key_equiv}
use Rattle.idl_entity.specs.Entity.{is_operation}
use Rattle.idl_env.specs.Facts.{addition_at, answer_of, entity_in, entity_key, key_of, more_inside, operations_among, path_around, over as answer_over}
use Rattle.idl_env.specs.keys.Key.{key_eq}
use Rattle.idl_env.specs.SameKey.{same_key}
use Rattle.idl_scope.specs.Meaning.{Through, bases_of}
use Rattle.idl_entity.specs.Path.{name_of, scope_of}
use Rattle.idl_env.specs.declared.additions.addition.Addition.{Addition}
use Rattle.idl_env.specs.declared.additions.addition.Addition.TheVariants.{Declares, Uses, UsesFurther, Appears, Identifies, TypePrefixes}
use Rattle.idl_env.specs.declared.answering.answer.Answer.{Answer}
use Rattle.idl_env.specs.declared.answering.answer.Scope.{Scope}
use Rattle.idl_entity.specs.declared.entity.Entity.{Entity}
use Rattle.idl_env.specs.declared.keys.key.Key.TheVariants.{Declared}
use Rattle.idl_entity.specs.declared.kind.Kind.TheVariants.{Interface, Module}
use Rattle.idl_entity.specs.declared.kind.Stage.TheVariants.{Ahead, Open, Complete}

-- ---- where names are declared

-- a name with a question mark before it is that of a nameless scope
abbrev pub is_nameless : List ℕ → Bool
is_nameless [] = false
is_nameless (b ∷ name) = nat_eq b 63

abbrev pub IsNameless : Place → Type 0
IsNameless [] = ⊥
IsNameless (name ∷ scope) = is_nameless name ≡ true

abbrev pub IsNamed : Place → Type 0
IsNamed [] = ⊥
IsNamed (name ∷ scope) = is_nameless name ≡ false

-- an entity in whose scope names may be declared: it is defined, and no closed interface
abbrev pub IsOpen : Entity → Type 0
IsOpen y = (y.stage ≢ Ahead) × (y.kind ≡ Interface → y.stage ≢ Complete)

-- such an entity stands at a path, or it is that of the global scope or of a nameless one
abbrev pub IsScope : (Entity → Type 0) → Names → Place → Type 0
IsScope Is D path = (path ≡ []) ⊎ (IsNameless path ⊎ ((y : Entity) × (there D path ≡ Some y) × (y.path ≡ path) × Is y))

abbrev pub IsDefined : Entity → Type 0
IsDefined y = y.stage ≢ Ahead

abbrev pub IsPlace : Names → Place → Type 0
IsPlace = IsScope IsOpen

pub named-nameless : (path : Place) → IsNamed path → IsNameless path → ⊥
named-nameless [] named h = h
named-nameless (name ∷ scope) named h = cc

pub named-global : (path : Place) → IsNamed path → path ≡ [] → ⊥
named-global [] named h = named
named-global (name ∷ scope) named h = cc

-- an entity that stands there with a name is that one
pub scope-one : (Is : Entity → Type 0) (D : Names) (path : Place) → IsScope Is D path → (e : Entity) → IsNamed e.path → there D path ≡ Some e → e.path ≡ path → Is e
scope-one Is D path (inl global) e named h is = absurd (named-global e.path named (is ∙ global))
scope-one Is D path (inr (inl nameless)) e named h is = absurd (named-nameless e.path named (subst IsNameless (sym is) nameless))
scope-one Is D path (inr (inr there)) e named h is = subst Is (some_same (sym there.1 ∙ h)) there.3

-- no closed interface is such a place
pub closed-place : (D : Names) (e : Entity) → IsNamed e.path → IsClosed D e → IsPlace D e.path → ⊥
closed-place D e named c p = (scope-one IsOpen D e.path p e named c.stands refl).1 c.kind c.stage

-- ---- what open interfaces have

-- these are its own operations and attributes; its bases are closed, and none of its names is inherited
pub record IsHeld (D : Names) (e : Entity) (paths : List Place) : Type 0 where
  pub stage : e.stage ≡ Open
  pub mine : (n : List ℕ) (x : Entity) → own D n e.path ≡ Some x → is_operation x ≡ true → IsIn x.path paths
  pub base : (b : Place) → Contains e.bases b → IsClosedAt D b
  pub told : (p : Place) → IsIn p paths → (n : List ℕ) × (x : Entity) × (own D n e.path ≡ Some x) × (is_operation x ≡ true) × (x.path ≡ p)
  pub apart : (n : List ℕ) (x : Entity) → Through (only D) n e.bases x → is_operation x ≡ true → own D n e.path ≡ None

-- so it is with an open scope of which these are the operations and attributes
pub record IsOpened (D : Names) (s : Scope) (paths : List Place) : Type 0 where
  pub place : IsPlace D s.path
  pub kind : (e : Entity) → there D s.path ≡ Some e → e.path ≡ s.path → e.kind ≡ s.kind
  pub held : (e : Entity) → there D s.path ≡ Some e → e.path ≡ s.path → e.kind ≡ Interface → IsHeld D e paths

-- a scope stands in the next one outward
abbrev pub IsUnder : Scope → List Scope → Type 0
IsUnder s [] = Unit {0}
IsUnder s (t ∷ outer) = (name : List ℕ) × (s.path ≡ name ∷ t.path)

abbrev pub AreOpened : Names → List Scope → List (List Place) → Type 0
AreOpened D [] inside = Unit {0}
AreOpened D (s ∷ outer) [] = ⊥
AreOpened D (s ∷ outer) (paths ∷ inside) = IsOpened D s paths × (IsUnder s outer × AreOpened D outer inside)

pub record IsKept (D : Names) (scopes : List Scope) (inside : List (List Place)) : Type 0 where
  -- what is declared has a name, and stands under it in its scope, which is one
  pub named : (n : List ℕ) (path : Place) (x : Entity) → own D n path ≡ Some x → IsNamed x.path × (n ≡ folded (name_of x.path)) × (path ≡ scope_of x.path)
  pub placed : (n : List ℕ) (path : Place) (x : Entity) → own D n path ≡ Some x → IsScope IsDefined D path
  pub whole : AreWhole D
  pub opened : AreOpened D scopes inside
  pub some : scopes ≢ []
  -- no module is declared ahead
  pub modules : (n : List ℕ) (path : Place) (x : Entity) → own D n path ≡ Some x → x.kind ≡ Module → x.stage ≢ Ahead

-- ---- what units add

abbrev pub over : List Addition → Names → Names
over additions D n path = answer_over additions (Declared n path) (D n path)

-- a name that a unit declares over others, in these scopes
pub record IsAdded (D : Names) (scopes : List Scope) (additions : List Addition) (x : Entity) : Type 0 where
  pub named : IsNamed x.path
  -- nothing is replaced but what is declared ahead
  pub fresh : (y : Entity) → there D x.path ≡ Some y → (y.stage ≡ Ahead) × (is_operation y ≡ false)
  pub unclosed : x.kind ≡ Interface → x.stage ≢ Complete
  pub module_there : x.kind ≡ Module → x.stage ≢ Ahead
  -- it stands in a scope in which names may be declared, the innermost of these or one in it
  pub place : IsPlace (over additions D) (scope_of x.path)
  pub inner : length (path_around scopes) ≤ length (scope_of x.path)
  pub level : is_operation x ≡ true → scope_of x.path ≡ path_around scopes
  -- the unit's own scopes have names
  pub beside : IsNameless (scope_of x.path) → scope_of x.path ≡ path_around scopes
  -- under the name no operation or attribute is inherited
  pub apart : scope_of x.path ≡ path_around scopes → (e y : Entity) → there D (path_around scopes) ≡ Some e → e.path ≡ path_around scopes → e.kind ≡ Interface
      → Through (only D) (folded (name_of x.path)) (bases_of (Some e)) y → is_operation y ≡ true → ⊥

-- it is found among additions at its key
abbrev pub IsFound : List Addition → Entity → Type 0
IsFound additions x = addition_at additions (entity_key x.path) ≡ Some (Declares x)

abbrev pub AreAdded : Names → List Scope → List Addition → Type 0
AreAdded D scopes additions = (x : Entity) → IsFound additions x → IsAdded D scopes additions x

-- no two stand at one key
abbrev pub Once : List Addition → Type 0
Once [] = Unit {0}
Once (a ∷ additions) = (addition_at additions (key_of a) ≡ None) × Once additions

pub once-found : (additions : List Addition) → Once additions → (a : Addition) → IsIn a additions → addition_at additions (key_of a) ≡ Some a
once-found [] once a i = absurd i
once-found (b ∷ additions) once a (inl e) =
    ap (λ t. cond t (Some b) (addition_at additions (key_of a))) (ap (λ c. key_eq c (key_of b)) (ap key_of (sym e)) ∙ key_equiv.refl (key_of b)) ∙ ap Some e
once-found (b ∷ additions) once a (inr i) = by_test (once-found additions once.1 a i) (key_eq (key_of a) (key_of b)) refl
  where
    by_test : addition_at additions (key_of a) ≡ Some a → (t : Bool) → key_eq (key_of a) (key_of b) ≡ t → cond t (Some b) (addition_at additions (key_of a)) ≡ Some a
    by_test later true same = absurd (none_some (sym once.0 ∙ ap (addition_at additions) (sym (same_key (key_of a) (key_of b) same)) ∙ later))
    by_test later false other = later

-- what stands under a name over additions: one of them, or what was there
pub data Stood (D : Names) (additions : List Addition) (n : List ℕ) (path : Place) : Type 0 where
  Added : (x : Entity) → IsFound additions x → Declared n path ≡ entity_key x.path → own (over additions D) n path ≡ Some x → Stood D additions n path
  Was : own (over additions D) n path ≡ own D n path → Stood D additions n path

pub stood : (D : Names) (additions : List Addition) (n : List ℕ) (path : Place) → Stood D additions n path
stood D additions n path = by_found (addition_at additions (Declared n path)) refl
  where
    told : Option Addition → Option Entity
    told o = entity_in (elim o as (λ _. Option Answer) [ None ↦ D n path | Some a ↦ Some (answer_of a) ])

    by_found : (o : Option Addition) → addition_at additions (Declared n path) ≡ o → Stood D additions n path
    by_found None e = Was (ap told e)
    by_found (Some (Declares x)) e = let r = addition_at-Some additions (Declared n path) (Declares x) e in Added x (ap (addition_at additions) (sym r.1) ∙ e) r.1 (ap told e)
    by_found (Some (Uses m q b)) e = let r : Declared n path ≡ key_of (Uses m q b) = (addition_at-Some additions (Declared n path) (Uses m q b) e).1 in cc
    by_found (Some (UsesFurther m q further)) e = let r : Declared n path ≡ key_of (UsesFurther m q further) = (addition_at-Some additions (Declared n path) (UsesFurther m q further) e).1 in cc
    by_found (Some (Appears q prefix)) e = let r : Declared n path ≡ key_of (Appears q prefix) = (addition_at-Some additions (Declared n path) (Appears q prefix) e).1 in cc
    by_found (Some (Identifies q identity)) e = let r : Declared n path ≡ key_of (Identifies q identity) = (addition_at-Some additions (Declared n path) (Identifies q identity) e).1 in cc
    by_found (Some (TypePrefixes q text)) e = let r : Declared n path ≡ key_of (TypePrefixes q text) = (addition_at-Some additions (Declared n path) (TypePrefixes q text) e).1 in cc

pub name_same : (n m : List ℕ) (p q : Place) → Declared n p ≡ Declared m q → n ≡ m
name_same n m p q h = cc

pub path_same : (n m : List ℕ) (p q : Place) → Declared n p ≡ Declared m q → p ≡ q
path_same n m p q h = cc

-- among those that a unit adds
operations-in : (additions : List Addition) (x : Entity) → IsIn (Declares x) additions → is_operation x ≡ true → IsIn x.path (operations_among additions)
operations-in [] x i h = absurd i
operations-in (Declares y ∷ additions) x (inl e) h =
    let same : y ≡ x = cc in
    subst (λ b. IsIn x.path (cond b (y.path ∷ operations_among additions) (operations_among additions))) (sym (ap is_operation same ∙ h)) (inl (ap (λ (z : Entity). z.path) same))
operations-in (Declares y ∷ additions) x (inr i) h = later (operations-in additions x i h) (is_operation y)
  where
    later : IsIn x.path (operations_among additions) → (b : Bool) → IsIn x.path (cond b (y.path ∷ operations_among additions) (operations_among additions))
    later there true = inr there
    later there false = there
operations-in (Uses m q b ∷ additions) x (inl e) h = cc
operations-in (Uses m q b ∷ additions) x (inr i) h = operations-in additions x i h
operations-in (UsesFurther m q further ∷ additions) x (inl e) h = cc
operations-in (UsesFurther m q further ∷ additions) x (inr i) h = operations-in additions x i h
operations-in (Appears q prefix ∷ additions) x (inl e) h = cc
operations-in (Appears q prefix ∷ additions) x (inr i) h = operations-in additions x i h
operations-in (Identifies q identity ∷ additions) x (inl e) h = cc
operations-in (Identifies q identity ∷ additions) x (inr i) h = operations-in additions x i h
operations-in (TypePrefixes q text ∷ additions) x (inl e) h = cc
operations-in (TypePrefixes q text ∷ additions) x (inr i) h = operations-in additions x i h

operations-out : (additions : List Addition) (p : Place) → IsIn p (operations_among additions) → (x : Entity) × IsIn (Declares x) additions × (is_operation x ≡ true) × (x.path ≡ p)
operations-out [] p i = absurd i
operations-out (Declares y ∷ additions) p i = by_kind (operations-out additions p) (is_operation y) refl i
  where
    by_kind : (IsIn p (operations_among additions) → (x : Entity) × IsIn (Declares x) additions × (is_operation x ≡ true) × (x.path ≡ p))
        → (b : Bool) → is_operation y ≡ b → IsIn p (cond b (y.path ∷ operations_among additions) (operations_among additions))
        → (x : Entity) × IsIn (Declares x) (Declares y ∷ additions) × (is_operation x ≡ true) × (x.path ≡ p)
    by_kind rest true e (inl h) = (y, inl refl, e, h)
    by_kind rest true e (inr j) = let r = rest j in (r.0, inr r.1, r.2, r.3)
    by_kind rest false e j = let r = rest j in (r.0, inr r.1, r.2, r.3)
operations-out (Uses m q b ∷ additions) p i = let r = operations-out additions p i in (r.0, inr r.1, r.2, r.3)
operations-out (UsesFurther m q further ∷ additions) p i = let r = operations-out additions p i in (r.0, inr r.1, r.2, r.3)
operations-out (Appears q prefix ∷ additions) p i = let r = operations-out additions p i in (r.0, inr r.1, r.2, r.3)
operations-out (Identifies q identity ∷ additions) p i = let r = operations-out additions p i in (r.0, inr r.1, r.2, r.3)
operations-out (TypePrefixes q text ∷ additions) p i = let r = operations-out additions p i in (r.0, inr r.1, r.2, r.3)

module _ (D : Names) (scopes : List Scope) (inside : List (List Place)) (additions : List Addition) (k : IsKept D scopes inside) (new : AreAdded D scopes additions) (once : Once additions) where
  abbrev after : Names
  after = over additions D

  -- what is defined, or an operation, stays
  pub stays : (n : List ℕ) (path : Place) (y : Entity) → own D n path ≡ Some y → ((y.stage ≡ Ahead) × (is_operation y ≡ false) → ⊥) → own after n path ≡ Some y
  stays n path y h defined = by_stood (stood D additions n path)
    where
      by_stood : Stood D additions n path → own after n path ≡ Some y
      by_stood (Was same) = same ∙ h
      by_stood (Added x i key is) =
          let fresh = (new x i).fresh in
          let at : there D x.path ≡ Some y = (λ j. own D (sym (name_same n (folded (name_of x.path)) path (scope_of x.path) key) j) (sym (path_same n (folded (name_of x.path)) path (scope_of x.path) key) j)) ∙ h in
          absurd (defined (fresh y at))

  -- at a path
  pub there-stays : (path : Place) (y : Entity) → there D path ≡ Some y → y.stage ≢ Ahead → there after path ≡ Some y
  there-stays path y h defined = stays (folded (name_of path)) (scope_of path) y h (λ z. defined z.0)

  pub scope-stays : (Is : Entity → Type 0) → ((y : Entity) → Is y → y.stage ≢ Ahead) → (path : Place) → IsScope Is D path → IsScope Is after path
  scope-stays Is defined path (inl global) = inl global
  scope-stays Is defined path (inr (inl nameless)) = inr (inl nameless)
  scope-stays Is defined path (inr (inr y)) = inr (inr (y.0, there-stays path y.0 y.1 (defined y.0 y.3), y.2, y.3))

  named-of : (e : Entity) → there D e.path ≡ Some e → IsNamed e.path
  named-of e h = (k.named (folded (name_of e.path)) (scope_of e.path) e h).0

  not-ahead : (e : Entity) → e.stage ≡ Complete → e.stage ≢ Ahead
  not-ahead e complete ahead = let z : Complete ≡ Ahead = sym complete ∙ ahead in cc

  -- closed interfaces stay
  pub closed-keeps : Keeps D after
  closed-keeps = record {
    stands = λ e c. there-stays e.path e c.stands (not-ahead e c.stage);
    within = λ e c n. by_stood e c n (stood D additions n e.path);
  }
    where
      by_stood : (e : Entity) → IsClosed D e → (n : List ℕ) → Stood D additions n e.path → own after n e.path ≡ own D n e.path
      by_stood e c n (Was same) = same
      by_stood e c n (Added x i key is) =
          let path : e.path ≡ scope_of x.path = path_same n (folded (name_of x.path)) e.path (scope_of x.path) key in
          let place : IsPlace after e.path = subst (IsPlace after) (sym path) (new x i).place in
          let closed : IsClosed after e = record { stands = there-stays e.path e c.stands (not-ahead e c.stage); kind = c.kind; stage = c.stage } in
          absurd (closed-place after e (named-of e c.stands) closed place)

  -- and none is new
  pub closed-before : (e : Entity) → IsClosed after e → IsClosed D e
  closed-before e c = by_stood (stood D additions (folded (name_of e.path)) (scope_of e.path))
    where
      by_stood : Stood D additions (folded (name_of e.path)) (scope_of e.path) → IsClosed D e
      by_stood (Was same) = record { stands = sym same ∙ c.stands; kind = c.kind; stage = c.stage }
      by_stood (Added x i key is) =
          let one : x ≡ e = some_same (sym is ∙ c.stands) in
          absurd ((new x i).unclosed (ap (λ (z : Entity). z.kind) one ∙ c.kind) (ap (λ (z : Entity). z.stage) one ∙ c.stage))

  whole-after : AreWhole after
  whole-after e c = kept-whole D after closed-keeps k.whole e (closed-before e c)

  named-after : (n : List ℕ) (path : Place) (x : Entity) → own after n path ≡ Some x → IsNamed x.path × (n ≡ folded (name_of x.path)) × (path ≡ scope_of x.path)
  named-after n path x h = by_stood (stood D additions n path)
    where
      by_stood : Stood D additions n path → IsNamed x.path × (n ≡ folded (name_of x.path)) × (path ≡ scope_of x.path)
      by_stood (Was same) = k.named n path x (sym same ∙ h)
      by_stood (Added y i key is) =
          let one : y ≡ x = some_same (sym is ∙ h) in
          subst (λ (z : Entity). IsNamed z.path × (n ≡ folded (name_of z.path)) × (path ≡ scope_of z.path)) one
          ((new y i).named, name_same n (folded (name_of y.path)) path (scope_of y.path) key, path_same n (folded (name_of y.path)) path (scope_of y.path) key)

  weaker : (path : Place) → IsPlace after path → IsScope IsDefined after path
  weaker path (inl global) = inl global
  weaker path (inr (inl nameless)) = inr (inl nameless)
  weaker path (inr (inr y)) = inr (inr (y.0, y.1, y.2, y.3.0))

  placed-after : (n : List ℕ) (path : Place) (x : Entity) → own after n path ≡ Some x → IsScope IsDefined after path
  placed-after n path x h = by_stood (stood D additions n path)
    where
      by_stood : Stood D additions n path → IsScope IsDefined after path
      by_stood (Was same) = scope-stays IsDefined (λ y d. d) path (k.placed n path x (sym same ∙ h))
      by_stood (Added y i key is) =
          weaker path (subst (IsPlace after) (sym (path_same n (folded (name_of y.path)) path (scope_of y.path) key)) (new y i).place)

  -- what stood at the place of an open scope, stands there
  was-there : (s : Scope) (paths : List Place) → IsOpened D s paths → (e : Entity) → there after s.path ≡ Some e → e.path ≡ s.path → there D s.path ≡ Some e
  was-there s paths o e h is = by_place o.place
    where
      named : IsNamed e.path
      named = (named-after (folded (name_of s.path)) (scope_of s.path) e h).0

      by_place : IsPlace D s.path → there D s.path ≡ Some e
      by_place (inl global) = absurd (named-global e.path named (is ∙ global))
      by_place (inr (inl nameless)) = absurd (named-nameless e.path named (subst IsNameless (sym is) nameless))
      by_place (inr (inr y)) = y.1 ∙ sym (there-stays s.path y.0 y.1 y.3.0) ∙ h

  -- a scope in which these are declared, or none is
  abbrev Gets : Scope → List Place → Type 0
  Gets s more = ((s.path ≡ path_around scopes) × (more ≡ operations_among additions)) ⊎ ((length s.path < length (path_around scopes)) × (more ≡ []))

  module _ (s : Scope) (paths more : List Place) (gets : Gets s more) (o : IsOpened D s paths) (e : Entity) (h : there D s.path ≡ Some e) (is : e.path ≡ s.path) (interface : e.kind ≡ Interface) where
    held : IsHeld D e paths
    held = o.held e h is interface

    -- an addition in it
    here : (n : List ℕ) (x : Entity) → IsFound additions x → Declared n e.path ≡ entity_key x.path → (scope_of x.path ≡ path_around scopes) × (more ≡ operations_among additions)
    here n x i key = by_gets gets
      where
        path : e.path ≡ scope_of x.path
        path = path_same n (folded (name_of x.path)) e.path (scope_of x.path) key

        by_gets : Gets s more → (scope_of x.path ≡ path_around scopes) × (more ≡ operations_among additions)
        by_gets (inl g) = (sym path ∙ is ∙ g.0, g.1)
        by_gets (inr g) =
            let inner = (new x i).inner in
            let same : length (scope_of x.path) ≡ length s.path = ap length (sym path ∙ is) in
            absurd (let none : ⊥ = omega (arith, g.0, inner, same) in none)

    held-own : (n : List ℕ) (x : Entity) → own after n e.path ≡ Some x → is_operation x ≡ true → IsIn x.path (paths ++ more)
    held-own n x there operation = by_stood (stood D additions n e.path)
      where
        by_stood : Stood D additions n e.path → IsIn x.path (paths ++ more)
        by_stood (Was same) = IsIn-left x.path paths more (held.mine n x (sym same ∙ there) operation)
        by_stood (Added y i key stands) =
            let one : y ≡ x = some_same (sym stands ∙ there) in
            let g = here n y i key in
            IsIn-right x.path paths more
            (subst (λ ps. IsIn x.path ps) (sym g.1)
            (subst (λ (z : Entity). IsIn z.path (operations_among additions)) one (operations-in additions y (addition_at-Some additions (entity_key y.path) (Declares y) i).0 (ap is_operation one ∙ operation))))

    held-told : (p : Place) → IsIn p (paths ++ more) → (n : List ℕ) × (x : Entity) × (own after n e.path ≡ Some x) × (is_operation x ≡ true) × (x.path ≡ p)
    held-told p i = by_side (IsIn-split p paths more i)
      where
        before : IsIn p paths → (n : List ℕ) × (x : Entity) × (own after n e.path ≡ Some x) × (is_operation x ≡ true) × (x.path ≡ p)
        before j = let t = held.told p j in (t.0, t.1, stays t.0 e.path t.1 t.2 (λ z. let f : true ≡ false = sym t.3 ∙ z.1 in cc), t.3, t.4)

        added : Gets s more → IsIn p more → (n : List ℕ) × (x : Entity) × (own after n e.path ≡ Some x) × (is_operation x ≡ true) × (x.path ≡ p)
        added (inl g) j =
            let r = operations-out additions p (subst (λ ps. IsIn p ps) g.1 j) in
            let found : IsFound additions r.0 = once-found additions once (Declares r.0) r.1 in
            let a = new r.0 found in
            let scope : scope_of r.0.path ≡ e.path = a.level r.2 ∙ sym g.0 ∙ sym is in
            let told : Option Addition → Option Entity = λ x. entity_in (elim x as (λ _. Option Answer) [ None ↦ D (folded (name_of r.0.path)) (scope_of r.0.path) | Some b ↦ Some (answer_of b) ]) in
            let stands : own after (folded (name_of r.0.path)) (scope_of r.0.path) ≡ Some r.0 = ap told found in
            (folded (name_of r.0.path), r.0, subst (λ q. own after (folded (name_of r.0.path)) q ≡ Some r.0) scope stands, r.2, r.3)
        added (inr g) j = absurd (subst (λ ps. IsIn p ps) g.1 j)

        by_side : IsIn p paths ⊎ IsIn p more → (n : List ℕ) × (x : Entity) × (own after n e.path ≡ Some x) × (is_operation x ≡ true) × (x.path ≡ p)
        by_side (inl j) = before j
        by_side (inr j) = added gets j

    held-apart : (n : List ℕ) (x : Entity) → Through (only after) n e.bases x → is_operation x ≡ true → own after n e.path ≡ None
    held-apart n x t operation = by_stood (stood D additions n e.path)
      where
        back : Through (only D) n e.bases x
        back = through-back D after closed-keeps k.whole n held.base t

        by_stood : Stood D additions n e.path → own after n e.path ≡ None
        by_stood (Was same) = same ∙ held.apart n x back operation
        by_stood (Added y i key stands) =
            let g = here n y i key in
            let name : n ≡ folded (name_of y.path) = name_same n (folded (name_of y.path)) e.path (scope_of y.path) key in
            let path : e.path ≡ path_around scopes = path_same n (folded (name_of y.path)) e.path (scope_of y.path) key ∙ g.0 in
            let around : there D (path_around scopes) ≡ Some e = ap (there D) (sym path ∙ is) ∙ h in
            let bases : bases_of (Some e) ≡ e.bases = ap (λ st. bases_of (Some (record e { stage = st }))) held.stage in
            absurd ((new y i).apart g.0 e x around path interface (subst (λ m. Through (only D) m (bases_of (Some e)) x) name (subst (λ bs. Through (only D) n bs x) (sym bases) back)) operation)

    held-after : IsHeld after e (paths ++ more)
    held-after = record {
      stage = held.stage;
      mine = held-own;
      base = λ b i. kept-at D after closed-keeps b (held.base b i);
      told = held-told;
      apart = held-apart;
    }

  opened-after : (s : Scope) (paths more : List Place) → Gets s more → IsOpened D s paths → IsOpened after s (paths ++ more)
  opened-after s paths more gets o = record {
    place = scope-stays IsOpen (λ y d. d.0) s.path o.place;
    kind = λ e h is. o.kind e (was-there s paths o e h is) is;
    held = λ e h is interface. held-after s paths more gets o e (was-there s paths o e h is) is interface;
  }

  outer-after : (outer : List Scope) (rest : List (List Place)) → (s : Scope) → IsUnder s outer → length s.path ≤ length (path_around scopes) → AreOpened D outer rest → AreOpened after outer rest
  outer-after [] rest s under most h = tt
  outer-after (t ∷ outer) [] s under most h = h
  outer-after (t ∷ outer) (paths ∷ rest) s under most h =
      let longer : length s.path ≡ suc (length t.path) = ap length under.1 in (
        subst (IsOpened after t) (append-nil paths) (opened-after t paths [] (inr (omega (arith, longer, most), refl)) h.0),
        (h.1.0, outer-after outer rest t h.1.0 (omega (arith, longer, most)) h.1.1),
      )

  inside-after : AreOpened after scopes (more_inside inside (operations_among additions))
  inside-after = by_scopes scopes inside refl refl k.opened
    where
      by_scopes : (ss : List Scope) (os : List (List Place)) → ss ≡ scopes → os ≡ inside → AreOpened D ss os → AreOpened after ss (more_inside os (operations_among additions))
      by_scopes [] os same inner h = tt
      by_scopes (s ∷ outer) [] same inner h = absurd h
      by_scopes (s ∷ outer) (paths ∷ rest) same inner h =
          let around : s.path ≡ path_around scopes = ap path_around same in
          let l : length s.path ≡ length (path_around scopes) = ap length around in
          (opened-after s paths (operations_among additions) (inl (around, refl)) h.0, (h.1.0, outer-after outer rest s h.1.0 (omega (arith, l)) h.1.1))

  modules-after : (n : List ℕ) (path : Place) (x : Entity) → own after n path ≡ Some x → x.kind ≡ Module → x.stage ≢ Ahead
  modules-after n path x h = by_stood (stood D additions n path)
    where
      by_stood : Stood D additions n path → x.kind ≡ Module → x.stage ≢ Ahead
      by_stood (Was same) = k.modules n path x (sym same ∙ h)
      by_stood (Added y i key is) = subst (λ (z : Entity). z.kind ≡ Module → z.stage ≢ Ahead) (some_same (sym is ∙ h)) (new y i).module_there

  -- additions keep all this
  pub added-kept : IsKept after scopes (more_inside inside (operations_among additions))
  added-kept = record { named = named-after; placed = placed-after; whole = whole-after; opened = inside-after; some = k.some; modules = modules-after }
