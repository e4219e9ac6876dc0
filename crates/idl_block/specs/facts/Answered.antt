-- What is answered behind facts, as a query of the bank beneath them: for each key that is asked,
-- what is needed and no more.
-- An answer is made when it is asked, and not with each write: a use that goes further looks at
-- scopes that no unit has asked. On demand that comes up only where a unit asks for the use, which
-- asks first what the scope declares.
-- Of the others that may stop it those of the unit declare nothing yet. The rest are nameless, and
-- these declare nothing when they open (`declares`).
use Rattle.std.specs.Prelude.{◌≡◌, ℕ, ◌+◌, ◌<◌, Bool, true, false, ◌&&◌, not, nat_eq, List, [], ◌∷◌, ◌++◌, Option, None, Some, All, Contains, drop, filter, is_some, length, map, if◌then◌else◌}
use Rattle.idl_entity.specs.Identity.{no_prefix}
use Rattle.idl_entity.specs.Kind.{kind_eq}
use Rattle.idl_entity.specs.Path.{path_eq}
use Rattle.idl_entity.specs.declared.entity.Entity.{Entity}
use Rattle.idl_entity.specs.declared.identity.Prefix.{Prefix}
use Rattle.idl_entity.specs.declared.kind.Kind.{Kind}
use Rattle.idl_entity.specs.declared.kind.Kind.TheVariants.{Interface}
use Rattle.idl_entity.specs.declared.kind.Stage.TheVariants.{Complete}
use Rattle.idl_env.specs.Facts.{UnitFacts, World, addition_at, after, answer_of, count_in, entity_in, entity_key, innermost, joined, key_of, more_inside, nameless, operations_among, operations_of, path_around, prefix_in, scopes_in, with_additions}
use Rattle.idl_env.specs.declared.additions.addition.Addition.{Addition}
use Rattle.idl_env.specs.declared.additions.addition.Addition.TheVariants.{UsesFurther}
use Rattle.idl_env.specs.declared.additions.addition.Step.{Step}
use Rattle.idl_env.specs.declared.additions.addition.Step.TheVariants.{Stays, Opens, OpensNameless, Closes, Prefixes, Enters, Leaves}
use Rattle.idl_env.specs.declared.answering.answer.Answer.{Answer}
use Rattle.idl_env.specs.declared.answering.answer.Answer.TheVariants.{Count, InForce, Known, Open}
use Rattle.idl_env.specs.declared.answering.answer.Scope.{Scope}
use Rattle.idl_env.specs.declared.keys.key.Key.{Key}
use Rattle.idl_env.specs.declared.keys.key.Key.TheVariants.{Cursor, Declared, Opened, Nameless, Prefix as PrefixKey}
use Rattle.idl_env.specs.Outside.{IsInnermost}
use Rattle.idl_env.specs.keys.Key.{key_eq}
use Rattle.idl_memo.specs.Query.{Query, Done, Ask, and_then}

-- a query of a bank, which tells nothing
abbrev pub Asking : Type 0 → Type 0
Asking A = Query Key (Option Answer) (Unit {0}) A

-- with what it comes to
abbrev pub mapped : {A B : Type 0} → (A → B) → Asking A → Asking B
mapped f query = and_then query (λ a. Done (f a))

-- a world of which the answers and the prefixes that come back are queries of a bank, and so is
-- whether a scope itself declares a name: a nameless scope declares none before it opens
pub record AskedWorld : Type 0 where
  pub answers : Key → Asking (Option Answer)
  pub declares : List ℕ → List (List ℕ) → Asking Bool
  pub inside : List (List (List (List ℕ)))
  pub opened : List (Asking Prefix)
  pub entered : List (Asking Prefix)

-- at first each key is asked of the bank, and nothing was opened or entered
abbrev pub at_first : AskedWorld
at_first = record {
  answers = λ k. Ask k (λ answer. Done answer);
  declares = λ n path. Ask (Declared n path) (λ answer. Done (is_some (entity_in answer)));
  inside = [] ∷ [];
  opened = [];
  entered = [];
}

-- ---- additions

-- whether a path is that of a nameless scope
abbrev pub is_nameless : List (List ℕ) → Bool
is_nameless ((c ∷ name) ∷ scope) = nat_eq c 63
is_nameless other = false

-- and whether it is another than this one
abbrev pub is_other_nameless : List (List ℕ) → List (List ℕ) → Bool
is_other_nameless path other = is_nameless other && not (path_eq other path)

-- whether one of these scopes itself declares a name
abbrev pub one_declares : AskedWorld → List ℕ → List (List (List ℕ)) → Asking Bool
one_declares w n [] = Done false
one_declares w n (path ∷ paths) =
    and_then (w.declares n path)
    (λ there. if there then Done true else one_declares w n paths)

-- whether a use is stopped: the scope into which it would go declares the name, or a nameless one
-- that may stop it does
abbrev pub stopped : AskedWorld → Addition → Asking Bool
stopped w (UsesFurther n path further) =
    and_then (w.answers (Declared n path))
    (λ answer. if is_some (entity_in answer) then Done true
    else one_declares w n (filter (is_other_nameless path) further.unless))
stopped w other = Done false

-- the answer of the first addition at a key that is not stopped, or else the one before
abbrev pub answered_by : AskedWorld → List Addition → Key → Asking (Option Answer)
answered_by w [] k = w.answers k
answered_by w (a ∷ additions) k =
    if key_eq k (key_of a) then
    and_then (stopped w a)
    (λ stopped. if stopped then answered_by w additions k else Done (Some (answer_of a)))
    else answered_by w additions k

abbrev pub with_added : List Addition → AskedWorld → AskedWorld
with_added additions w = record w {
  answers = λ k. answered_by w additions k;
  declares = λ n path.
      if is_some (addition_at additions (Declared n path)) then Done true else w.declares n path;
  inside = more_inside w.inside (operations_among additions);
}

-- ---- scopes that open

-- the prefix that is in force
abbrev pub prefix_of : AskedWorld → Asking Prefix
prefix_of w = mapped prefix_in (w.answers PrefixKey)

-- behind one more body of the scope at a path
abbrev pub answered_opening : AskedWorld → List (List ℕ) → Kind → Key → Asking (Option Answer)
answered_opening w path kind Cursor =
    and_then (w.answers (Opened path))
    (λ count. mapped (λ cursor. Some (Open (
    record { path = path; kind = kind; body = count_in count + 1 } ∷ scopes_in cursor
    ))) (w.answers Cursor))
answered_opening w path kind (Opened other) =
    if path_eq other path
    then mapped (λ count. Some (Count (count_in count + 1))) (w.answers (Opened path))
    else w.answers (Opened other)
answered_opening w path kind key = w.answers key

-- the path of the next nameless scope, by what is answered of their number and of the open scopes
abbrev pub nameless_path : Option Answer → Option Answer → List (List ℕ)
nameless_path count cursor = nameless (count_in count) ∷ path_around (scopes_in cursor)

-- behind a nameless scope, which was never open before
abbrev pub answered_nameless : AskedWorld → Kind → Key → Asking (Option Answer)
answered_nameless w kind Cursor =
    and_then (w.answers Nameless)
    (λ count. mapped (λ cursor. Some (Open (
    record { path = nameless_path count cursor; kind = kind; body = 1 } ∷ scopes_in cursor
    ))) (w.answers Cursor))
answered_nameless w kind Nameless =
    mapped (λ count. Some (Count (count_in count + 1))) (w.answers Nameless)
answered_nameless w kind (Opened path) =
    if is_nameless path then
    and_then (w.answers Nameless) (λ count. and_then (w.answers Cursor)
    (λ cursor. if path_eq path (nameless_path count cursor) then Done (Some (Count 1))
    else w.answers (Opened path)))
    else w.answers (Opened path)
answered_nameless w kind key = w.answers key

-- whether a scope then declares a name
abbrev pub declares_nameless : AskedWorld → List ℕ → List (List ℕ) → Asking Bool
declares_nameless w n path =
    if is_nameless path then
    and_then (w.answers Nameless) (λ count. and_then (w.answers Cursor)
    (λ cursor. if path_eq path (nameless_path count cursor) then Done false else w.declares n path))
    else w.declares n path

abbrev pub with_scope : (Key → Asking (Option Answer)) → AskedWorld → AskedWorld
with_scope answers w = record w {
  answers = answers;
  inside = [] ∷ w.inside;
  opened = prefix_of w ∷ w.opened;
}

-- ---- a scope that closes

-- these operations and attributes, and those of bases in their order that are not yet there
abbrev pub gathering : AskedWorld → List (List (List ℕ)) → List (List (List ℕ))
    → Asking (List (List (List ℕ)))
gathering w found [] = Done found
gathering w found (b ∷ bases) =
    and_then (w.answers (entity_key b))
    (λ answer. gathering w (joined found (operations_of (entity_in answer))) bases)

-- what an interface with these bases inherits
abbrev pub inheriting : AskedWorld → List (List (List ℕ)) → Asking (List (List (List ℕ)))
inheriting w [] = Done []
inheriting w (b ∷ bases) =
    and_then (w.answers (entity_key b))
    (λ answer. gathering w (operations_of (entity_in answer)) bases)

-- an entity, if there is one, as an interface that closes
abbrev pub completed : AskedWorld → Option Answer → Asking (Option Answer)
completed w answer =
    elim (entity_in answer) [
      | None ↦ Done answer
      | Some e ↦ mapped (λ found.
          Some (Known (record e { stage = Complete; operations = found ++ innermost w.inside })))
          (inheriting w e.bases)
    ]

-- what a name is declared as behind the closing of the innermost of these scopes; no entity has the
-- path of a nameless one
abbrev pub declared_closing : AskedWorld → List Scope → Key → Asking (Option Answer)
declared_closing w [] k = w.answers k
declared_closing w (s ∷ outer) k =
    if kind_eq s.kind Interface && (not (is_nameless s.path) && key_eq k (entity_key s.path))
    then and_then (w.answers k) (λ answer. completed w answer)
    else w.answers k

-- the first of these prefixes, which comes back
abbrev pub coming_back : List (Asking Prefix) → Asking (Option Answer)
coming_back [] = Done (Some (InForce no_prefix))
coming_back (prefix ∷ earlier) = mapped (λ p. Some (InForce p)) prefix

-- behind the closing of the innermost open scope
abbrev pub answered_closing : AskedWorld → Key → Asking (Option Answer)
answered_closing w Cursor =
    mapped (λ cursor. Some (Open (drop 1 (scopes_in cursor)))) (w.answers Cursor)
answered_closing w PrefixKey = coming_back w.opened
answered_closing w (Declared n path) =
    and_then (w.answers Cursor)
    (λ cursor. declared_closing w (scopes_in cursor) (Declared n path))
answered_closing w key = w.answers key

abbrev pub without_scope : AskedWorld → AskedWorld
without_scope w = record {
  answers = answered_closing w;
  declares = w.declares;
  inside = drop 1 w.inside;
  opened = drop 1 w.opened;
  entered = w.entered;
}

-- ---- the prefix in force

-- with this answer where it is asked which prefix is in force
abbrev pub with_prefix : Asking (Option Answer) → AskedWorld → Key → Asking (Option Answer)
with_prefix prefix w PrefixKey = prefix
with_prefix prefix w key = w.answers key

-- that of a prefix pragma with this text
abbrev pub prefix_here : AskedWorld → List ℕ → Asking (Option Answer)
prefix_here w text =
    mapped
    (λ cursor. Some (InForce (record { text = text; scope = path_around (scopes_in cursor) })))
    (w.answers Cursor)

-- ---- facts

-- behind a change of the open scopes, of the files entered, or of the prefix
abbrev pub stepped : AskedWorld → Step → AskedWorld
stepped w Stays = w
stepped w (Opens path kind) = with_scope (answered_opening w path kind) w
stepped w (OpensNameless kind) =
    record (with_scope (answered_nameless w kind) w) { declares = declares_nameless w }
stepped w Closes = without_scope w
stepped w (Prefixes text) = record w { answers = with_prefix (prefix_here w text) w }
stepped w Enters = record w {
  answers = with_prefix (Done (Some (InForce no_prefix))) w;
  entered = prefix_of w ∷ w.entered;
}
stepped w Leaves = record w {
  answers = with_prefix (coming_back w.entered) w;
  entered = drop 1 w.entered;
}

-- behind what a unit adds
abbrev pub behind_one : AskedWorld → UnitFacts → AskedWorld
behind_one w f = stepped (with_added f.additions w) f.step

-- behind what units add, the earliest first
abbrev pub behind_all : AskedWorld → List UnitFacts → AskedWorld
behind_all w [] = w
behind_all w (f ∷ facts) = behind_all (behind_one w f) facts

-- what is answered at a key behind facts, over a bank
abbrev pub answered : List UnitFacts → Key → Asking (Option Answer)
answered facts k = (behind_all at_first facts).answers k

-- ---- facts of which it is told

-- what is declared has its own key, no entity has the path of a nameless scope, and the next one was
-- never open and declares nothing
pub record AreNamed (answers : Key → Option Answer) : Type 0 where
  pub own : (n : List ℕ) (path : List (List ℕ)) (e : Entity)
      → entity_in (answers (Declared n path)) ≡ Some e → entity_key e.path ≡ Declared n path
  pub declared : (path : List (List ℕ)) → is_nameless path ≡ true
      → entity_in (answers (entity_key path)) ≡ None
  pub opened : (scope : List (List ℕ))
      → count_in (answers (Opened (nameless (count_in (answers Nameless)) ∷ scope))) ≡ 0
  pub blank : (n : List ℕ) (scope : List (List ℕ))
      → entity_in (answers (Declared n (nameless (count_in (answers Nameless)) ∷ scope))) ≡ None

-- so it is where a scope closes, or a nameless one opens; any other that opens has a name
abbrev pub AreNamedAt : (Key → Option Answer) → Step → Type 0
AreNamedAt answers (Opens path kind) = is_nameless path ≡ false
AreNamedAt answers (OpensNameless kind) = AreNamed answers
AreNamedAt answers Closes = AreNamed answers
AreNamedAt answers other = Unit {0}

-- a closing closes a scope
abbrev pub IsClosing : (Key → Option Answer) → Step → Type 0
IsClosing answers Closes = (s : Scope) × IsInnermost answers s
IsClosing answers other = Unit {0}

-- a scope that may stop a use of a name that goes into the scope at a path: that one, or a nameless
-- one that is open inside of it; or one that doesn't declare the name, as those of the unit itself
pub data IsStop (answers : Key → Option Answer) (n : List ℕ) (path : List (List ℕ))
    : List (List ℕ) → Type 0 where
  Itself : {q : List (List ℕ)} → q ≡ path → IsStop answers n path q
  Inside : {q : List (List ℕ)}
      → is_nameless q ≡ true → length path < length q
      → Contains (map (λ s. s.path) (scopes_in (answers Cursor))) q → IsStop answers n path q
  Silent : {q : List (List ℕ)}
      → is_nameless q ≡ false → entity_in (answers (Declared n q)) ≡ None → IsStop answers n path q

-- those of an addition are such scopes
abbrev pub AreStops : (Key → Option Answer) → Addition → Type 0
AreStops answers (UsesFurther n path further) =
    Contains further.unless path × All (IsStop answers n path) further.unless
AreStops answers other = Unit {0}

-- facts are as units tell them over a world
pub record IsProper (w : World) (f : UnitFacts) : Type 0 where
  pub stops : All (AreStops w.answers) f.additions
  pub named : AreNamedAt (with_additions f.additions w).answers f.step
  pub closing : IsClosing (with_additions f.additions w).answers f.step

abbrev pub AreProper : World → List UnitFacts → Type 0
AreProper w [] = Unit {0}
AreProper w (f ∷ facts) = IsProper w f × AreProper (after w f) facts
