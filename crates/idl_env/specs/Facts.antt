-- The facts that units add, one unit after another, and the answers that they leave at each key.
-- A typeprefix is an answer at its own key: one that comes or goes is one addition, and who asks
-- for an id asks for the typeprefixes outward to the first. A use that goes further (`UsesFurther`)
-- names the scopes that may stop it, as nothing is asked outward of the one that decides; where it
-- is added the facts tell whether one does.
-- A prefix is added with the open scopes where it was met: a pragma asks for these alone, and a
-- kept verdict holds in any scope. The prefixes before openings and those before entered files are
-- two lists.
use Rattle.std.specs.Prelude.{ℕ, ◌+◌, Bool, List, [], ◌∷◌, ◌++◌, Option, Some, None, decimal, drop, filter, is_some, map, not, if◌then◌else◌}
use Rattle.std.specs.List.{list_any}
use Rattle.idl_entity.specs.idl_lex.kinds.Keywords.{folded}
use Rattle.idl_entity.specs.Entity.{is_operation}
use Rattle.idl_entity.specs.Identity.{first_identity, fixed_for, identity_of, no_prefix, prefix_for, told}
use Rattle.idl_env.specs.keys.Key.{key_eq}
use Rattle.idl_env.specs.declared.keys.key.Key.{Key}
use Rattle.idl_env.specs.declared.keys.key.Key.TheVariants.{Cursor, Declared, Introduced, Opened, Nameless, Prefix as PrefixKey, IdOf, Typeprefix}
use Rattle.idl_entity.specs.Kind.{kind_eq}
use Rattle.idl_entity.specs.Path.{name_of, path_eq, scope_of}
use Rattle.idl_env.specs.declared.additions.addition.Addition.{Addition}
use Rattle.idl_env.specs.declared.additions.addition.Addition.TheVariants.{Declares, Uses, UsesFurther, Appears, Identifies, TypePrefixes}
use Rattle.idl_env.specs.declared.additions.addition.Step.{Step}
use Rattle.idl_env.specs.declared.additions.addition.Step.TheVariants.{Stays, Opens, OpensNameless, Closes, Prefixes, Enters, Leaves}
use Rattle.idl_env.specs.declared.answering.answer.Answer.{Answer}
use Rattle.idl_env.specs.declared.answering.answer.Answer.TheVariants.{Open, Known, Used, Count, InForce, Appeared, Identified, Prefixed}
use Rattle.idl_env.specs.declared.answering.answer.Scope.{Scope}
use Rattle.idl_entity.specs.declared.entity.Entity.{Entity}
use Rattle.idl_entity.specs.declared.identity.Identity.{Identity}
use Rattle.idl_entity.specs.declared.identity.Prefix.{Prefix}
use Rattle.idl_entity.specs.declared.kind.Kind.TheVariants.{Module, Interface}
use Rattle.idl_entity.specs.declared.kind.Stage.TheVariants.{Complete}

-- what a unit adds, or its earlier tokens: names that are declared and introduced, ids and
-- typeprefixes, no two at one key, and then how the open scopes, the files entered and the prefix change
pub record UnitFacts : Type 0 where
  pub additions : List Addition
  pub step : Step

-- what a file boundary adds
abbrev pub boundary : Step → UnitFacts
boundary step = record { additions = []; step = step }

-- what is asked of the entity at a path: its own name, folded, in the scope around
abbrev pub entity_key : List (List ℕ) → Key
entity_key path = Declared (folded (name_of path)) (scope_of path)

-- the key whose answer an addition changes
abbrev pub key_of : Addition → Key
key_of (Declares e) = entity_key e.path
key_of (Uses n path body) = Introduced n path body
key_of (UsesFurther n path further) = Introduced n path further.body
key_of (Appears path prefix) = IdOf path
key_of (Identifies path identity) = IdOf path
key_of (TypePrefixes path text) = Typeprefix path

-- the answer that it leaves there
abbrev pub answer_of : Addition → Answer
answer_of (Declares e) = Known e
answer_of (Uses n path body) = Used
answer_of (UsesFurther n path further) = Used
answer_of (Appears path prefix) = Appeared (prefix_for path prefix)
answer_of (Identifies path fixed) = Identified (fixed_for path fixed)
answer_of (TypePrefixes path text) = Prefixed text

-- the addition at a key, or nothing
abbrev pub addition_at : List Addition → Key → Option Addition
addition_at [] k = None
addition_at (a ∷ additions) k =
    if key_eq k (key_of a) then Some a else addition_at additions k

-- the answer at a key over these additions, where it was this one before them
abbrev pub over : List Addition → Key → Option Answer → Option Answer
over additions k before =
    elim (addition_at additions k) [ None ↦ before | Some a ↦ Some (answer_of a) ]

-- the additions with one more: it takes the place of the one at its key, or goes last
abbrev pub with_addition : List Addition → Addition → List Addition
with_addition [] a = a ∷ []
with_addition (b ∷ additions) a =
    if key_eq (key_of a) (key_of b) then a ∷ additions else b ∷ with_addition additions a

-- the prefixes that were in force before each open scope but the global one was opened, the innermost
-- first, and before each file that isn't left was entered, the last first
pub record Before : Type 0 where
  pub opened : List Prefix
  pub entered : List Prefix

-- what the facts so far come to: the answer at each key, and beside it the operations and
-- attributes so far of each open scope, the innermost first, and the prefixes that were in force
pub record World : Type 0 where
  pub answers : Key → Option Answer
  pub inside : List (List (List (List ℕ)))
  pub before : Before

-- the global scope: a module without name, and the last of the open scopes
abbrev pub global_scope : Scope
global_scope = record { path = []; kind = Module; body = 0 }

-- at first the global scope is open, no prefix is in force, and nothing is declared
abbrev pub first_answer : Key → Option Answer
first_answer Cursor = Some (Open (global_scope ∷ []))
first_answer PrefixKey = Some (InForce no_prefix)
first_answer key = None

abbrev pub first_world : World
first_world = record {
  answers = first_answer;
  inside = [] ∷ [];
  before = record { opened = []; entered = [] };
}

-- answers with another one at a key
abbrev pub with_answer : Key → Answer → (Key → Option Answer) → Key → Option Answer
with_answer k a answers q = if key_eq q k then Some a else answers q

-- what an answer tells: open scopes, an entity, a count
abbrev pub scopes_in : Option Answer → List Scope
scopes_in (Some (Open scopes)) = scopes
scopes_in other = []

abbrev pub entity_in : Option Answer → Option Entity
entity_in (Some (Known e)) = Some e
entity_in other = None

abbrev pub count_in : Option Answer → ℕ
count_in (Some (Count n)) = n
count_in other = 0

abbrev pub prefix_in : Option Answer → Prefix
prefix_in (Some (InForce prefix)) = prefix
prefix_in other = no_prefix

-- the typeprefix of a scope, by what is answered of it
abbrev pub typeprefix_in : Option Answer → Option (List ℕ)
typeprefix_in (Some (Prefixed text)) = Some text
typeprefix_in other = None

-- what identifies a name under a typeprefix, if there is one, by what is answered of its id
abbrev pub identity_in : Option (List ℕ) → Option Answer → Option Identity
identity_in typeprefix (Some (Appeared prefix)) = Some (first_identity typeprefix prefix)
identity_in typeprefix (Some (Identified fixed)) = Some (identity_of typeprefix fixed)
identity_in typeprefix other = None

-- the id of the name at a path, and nothing where none is told
abbrev pub id_at : List (List ℕ) → Option (List ℕ) → Option Answer → List ℕ
id_at path typeprefix answer =
    elim (identity_in typeprefix answer) [ None ↦ [] | Some d ↦ told path d ]

-- the paths of operations and attributes among what is declared
abbrev pub operations_among : List Addition → List (List (List ℕ))
operations_among [] = []
operations_among (Declares e ∷ additions) =
    if is_operation e then e.path ∷ operations_among additions else operations_among additions
operations_among (Uses n path body ∷ additions) = operations_among additions
operations_among (UsesFurther n path further ∷ additions) = operations_among additions
operations_among (Appears path prefix ∷ additions) = operations_among additions
operations_among (Identifies path identity ∷ additions) = operations_among additions
operations_among (TypePrefixes path text ∷ additions) = operations_among additions

-- those of the innermost scope, with more
abbrev pub more_inside : List (List (List (List ℕ))) → List (List (List ℕ))
    → List (List (List (List ℕ)))
more_inside [] paths = []
more_inside (own ∷ outer) paths = (own ++ paths) ∷ outer

abbrev pub innermost : List (List (List (List ℕ))) → List (List (List ℕ))
innermost [] = []
innermost (own ∷ outer) = own

-- the keys at which it is told whether an addition is stopped: what the scopes that may stop a use
-- declare the name as
abbrev pub stops_of : Addition → List Key
stops_of (UsesFurther n path further) = map (λ p. Declared n p) further.unless
stops_of other = []

-- one of these scopes itself declares the name
abbrev pub is_stopped : (Key → Option Answer) → Addition → Bool
is_stopped answers a = list_any (λ k. is_some (entity_in (answers k))) (stops_of a)

-- the additions without the uses that are stopped
abbrev pub unstopped : (Key → Option Answer) → List Addition → List Addition
unstopped answers additions = filter (λ a. not (is_stopped answers a)) additions

-- after additions, of which those count that are not stopped by what was declared before
abbrev pub with_additions : List Addition → World → World
with_additions additions w = record w {
  answers = λ k. over (unstopped w.answers additions) k (w.answers k);
  inside = more_inside w.inside (operations_among additions);
}

-- the first paths and those of the others that are not yet there, in order
abbrev pub joined : List (List (List ℕ)) → List (List (List ℕ)) → List (List (List ℕ))
joined found [] = found
joined found (p ∷ paths) = joined (if list_any (path_eq p) found then found else found ++ p ∷ []) paths

-- the operations and attributes of an entity: those of a closed interface, inherited ones too
abbrev pub operations_of : Option Entity → List (List (List ℕ))
operations_of None = []
operations_of (Some e) = e.operations

-- these operations and attributes, and those of bases in their order that are not yet there
abbrev pub gathered : (Key → Option Answer) → List (List (List ℕ)) → List (List (List ℕ))
    → List (List (List ℕ))
gathered answers found [] = found
gathered answers found (b ∷ bases) =
    gathered answers (joined found (operations_of (entity_in (answers (entity_key b))))) bases

-- what an interface with these bases inherits: the operations and attributes of the first base as
-- they are, and those of the others that are not yet there, in order. So none is there twice where
-- those of the first base are distinct, as those of an interface are
abbrev pub inherited : (Key → Option Answer) → List (List (List ℕ)) → List (List (List ℕ))
inherited answers [] = []
inherited answers (b ∷ bases) =
    gathered answers (operations_of (entity_in (answers (entity_key b)))) bases

-- an interface that closes: its operations and attributes are the inherited ones and then its own
abbrev pub closed : World → Entity → Entity
closed w e = record e {
  stage = Complete;
  operations = inherited w.answers e.bases ++ innermost w.inside;
}

-- what the closing of a scope changes beside the open scopes
abbrev pub closing : World → Scope → List Addition
closing w s =
    if kind_eq s.kind Interface then elim (entity_in (w.answers (entity_key s.path)))
    [ None ↦ [] | Some e ↦ Declares (closed w e) ∷ [] ] else []

-- the prefix that comes back where these were in force before, the last first
abbrev pub given_back : List Prefix → Prefix
given_back [] = no_prefix
given_back (prefix ∷ earlier) = prefix

-- with this prefix in force
abbrev pub with_prefix : Prefix → (Key → Option Answer) → Key → Option Answer
with_prefix prefix answers = with_answer PrefixKey (InForce prefix) answers

-- after the innermost of these open scopes is closed; the global one never is. The prefix is again
-- the one before it was opened
abbrev pub after_closing : World → List Scope → World
after_closing w [] = w
after_closing w (s ∷ []) = w
after_closing w (s ∷ t ∷ outer) = record {
  answers =
      with_prefix (given_back w.before.opened)
      (with_answer Cursor (Open (t ∷ outer)) (λ k. over (closing w s) k (w.answers k)));
  inside = drop 1 w.inside;
  before = record w.before { opened = drop 1 w.before.opened };
}

-- after one more body of a scope is opened
abbrev pub after_opening : World → Scope → World
after_opening w s = record {
  answers =
      with_answer Cursor (Open (s ∷ scopes_in (w.answers Cursor)))
      (with_answer (Opened s.path) (Count s.body) w.answers);
  inside = [] ∷ w.inside;
  before = record w.before { opened = prefix_in (w.answers PrefixKey) ∷ w.before.opened };
}

-- the number of the next body of the scope at a path
abbrev pub next_body : World → List (List ℕ) → ℕ
next_body w path = count_in (w.answers (Opened path)) + 1

-- the path around what stands in the innermost of these scopes
abbrev pub path_around : List Scope → List (List ℕ)
path_around [] = []
path_around (s ∷ scopes) = s.path

-- the name of the nameless scope before which so many were opened: a question mark and the number
abbrev pub nameless : ℕ → List ℕ
nameless n = 63 ∷ decimal n

-- after one more nameless scope is counted
abbrev pub after_nameless : World → World
after_nameless w = record w {
  answers = with_answer Nameless (Count (count_in (w.answers Nameless) + 1)) w.answers;
}

-- after a prefix pragma: this text is in force, met in the innermost open scope
abbrev pub after_prefix : World → List ℕ → World
after_prefix w text = record w {
  answers =
      with_prefix (record { text = text; scope = path_around (scopes_in (w.answers Cursor)) })
      w.answers;
}

-- after a file is entered: no prefix is in force
abbrev pub after_entering : World → World
after_entering w = record w {
  answers = with_prefix no_prefix w.answers;
  before = record w.before { entered = prefix_in (w.answers PrefixKey) ∷ w.before.entered };
}

-- after a file is left: the prefix is again the one before it was entered
abbrev pub after_leaving : World → World
after_leaving w = record w {
  answers = with_prefix (given_back w.before.entered) w.answers;
  before = record w.before { entered = drop 1 w.before.entered };
}

-- after a change of the open scopes, of the files entered, or of the prefix
abbrev pub after_step : World → Step → World
after_step w Stays = w
after_step w (Opens path kind) =
    after_opening w (record { path = path; kind = kind; body = next_body w path })
after_step w (OpensNameless kind) =
    let name = nameless (count_in (w.answers Nameless)) in
    let path = name ∷ path_around (scopes_in (w.answers Cursor)) in
    after_opening (after_nameless w)
    (record { path = path; kind = kind; body = next_body w path })
after_step w Closes = after_closing w (scopes_in (w.answers Cursor))
after_step w (Prefixes text) = after_prefix w text
after_step w Enters = after_entering w
after_step w Leaves = after_leaving w

-- after what a unit adds
abbrev pub after : World → UnitFacts → World
after w facts = after_step (with_additions facts.additions w) facts.step

-- after what units add, the earliest first
abbrev pub after_all : World → List UnitFacts → World
after_all w [] = w
after_all w (f ∷ facts) = after_all (after w f) facts

-- what facts come to
unfoldable pub world : List UnitFacts → World
world facts = after_all first_world facts

-- the answers over facts
abbrev pub answers : List UnitFacts → Key → Option Answer
answers facts = (world facts).answers
