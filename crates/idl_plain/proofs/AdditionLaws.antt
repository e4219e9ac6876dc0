-- As many turns are needed as entities are declared and bases named; and where additions leave which answers.
use Rattle.std.proofs.Common.{◌≡◌, ◌++◌, ◌+◌, ◌∙◌, ℕ, suc, Bool, true, false, cond, List, [], ◌∷◌, None, Option, Some, ap, fold, map, refl, length, length-append, arith}
use Rattle.std.specs.Map.{lookup}
use Rattle.std.specs.Option.{option_or}
use Rattle.std.specs.Prelude.{flat_map}
use Rattle.idl_entity.specs.Entity.{is_operation}
use Rattle.idl_env.specs.Facts.{UnitFacts, addition_at, answer_of, entity_in, entity_key, gathered, joined, key_of, operations_among, operations_of, over}
use Rattle.idl_env.specs.Turns.{bases_among, bases_named, declared_among, declared_named, turns_among, turns_for}
use Rattle.idl_env.specs.declared.additions.addition.Addition.{Addition}
use Rattle.idl_env.specs.declared.additions.addition.Addition.TheVariants.{Appears, Declares, Identifies, TypePrefixes, Uses, UsesFurther}
use Rattle.idl_env.specs.declared.answering.answer.Answer.{Answer}
use Rattle.idl_env.specs.declared.keys.key.Key.{Key}
use Rattle.idl_env.specs.keys.Key.{key_eq}
use Rattle.idl_plain.specs.Additions.{left_by, named_by, operation_by}

abbrev named : List Addition → List (List (List ℕ))
named additions = flat_map named_by additions

abbrev named_in : List UnitFacts → List (List (List ℕ))
named_in facts = flat_map (λ (f : UnitFacts). flat_map named_by f.additions) facts

pub turns-told : (additions : List Addition) → turns_among additions ≡ length (flat_map named_by additions)
turns-told [] = refl
turns-told (Declares e ∷ additions) =
    let bases : length (e.bases ++ bases_among additions) ≡ length e.bases + length (bases_among additions) = length-append e.bases (bases_among additions) in
    let all : length (e.bases ++ named additions) ≡ length e.bases + length (named additions) = length-append e.bases (named additions) in
    let more : length (bases_among additions) + length (declared_among additions) ≡ length (named additions) = turns-told additions in
    let told : length (e.bases ++ bases_among additions) + suc (length (declared_among additions)) ≡ suc (length (e.bases ++ named additions)) = omega (arith, bases, all, more) in
    told
turns-told (a ∷ additions) = turns-told additions

pub turns-needed : (facts : List UnitFacts) → turns_for facts ≡ length (flat_map (λ (f : UnitFacts). flat_map named_by f.additions) facts)
turns-needed [] = refl
turns-needed (f ∷ facts) =
    let bases : length (bases_among f.additions ++ bases_named facts) ≡ length (bases_among f.additions) + length (bases_named facts) = length-append (bases_among f.additions) (bases_named facts) in
    let paths : length (declared_among f.additions ++ declared_named facts) ≡ length (declared_among f.additions) + length (declared_named facts) = length-append (declared_among f.additions) (declared_named facts) in
    let here : length (bases_among f.additions) + length (declared_among f.additions) ≡ length (named f.additions) = turns-told f.additions in
    let more : length (bases_named facts) + length (declared_named facts) ≡ length (named_in facts) = turns-needed facts in
    let parts : length (named f.additions ++ named_in facts) ≡ length (named f.additions) + length (named_in facts) = length-append (named f.additions) (named_in facts) in
    let told : length (bases_among f.additions ++ bases_named facts) + length (declared_among f.additions ++ declared_named facts) ≡ length (named f.additions ++ named_in facts) = omega (arith, bases, paths, here, more, parts) in
    told

pub keys-told : (a : Addition) → key_of a ≡ (left_by a).0
keys-told (Declares e) = refl
keys-told (Uses n path body) = refl
keys-told (UsesFurther n path further) = refl
keys-told (Appears path prefix) = refl
keys-told (Identifies path fixed) = refl
keys-told (TypePrefixes path text) = refl

answers-told : (a : Addition) → answer_of a ≡ (left_by a).1
answers-told (Declares e) = refl
answers-told (Uses n path body) = refl
answers-told (UsesFurther n path further) = refl
answers-told (Appears path prefix) = refl
answers-told (Identifies path fixed) = refl
answers-told (TypePrefixes path text) = refl

-- the answer of the first addition at a key, or else of those behind it
over-by : (b : Bool) (a : Addition) (later : Option Addition) (there : Option Answer) (before : Option Answer)
    → elim later [ None ↦ before | Some x ↦ Some (answer_of x) ] ≡ option_or there before
    → elim (cond b (Some a) later) [ None ↦ before | Some x ↦ Some (answer_of x) ] ≡ option_or (cond b (Some (answer_of a)) there) before
over-by true a later there before h = refl
over-by false a later there before h = h

pub answers-over : (additions : List Addition) (k : Key) (before : Option Answer) → over additions k before ≡ option_or (lookup (key_eq k) (map left_by additions)) before
answers-over [] k before = refl
answers-over (a ∷ additions) k before =
    over-by (key_eq k (key_of a)) a (addition_at additions k) (lookup (key_eq k) (map left_by additions)) before (answers-over additions k before)
    ∙ (λ i. option_or (cond (key_eq k (keys-told a i)) (Some (answers-told a i)) (lookup (key_eq k) (map left_by additions))) before)

pub inherited-told : (answers : Key → Option Answer) (found bases : List (List (List ℕ))) → gathered answers found bases
    ≡ fold (λ paths b. joined paths (operations_of (entity_in (answers (entity_key b))))) found bases
inherited-told answers found [] = refl
inherited-told answers found (b ∷ bases) = inherited-told answers (joined found (operations_of (entity_in (answers (entity_key b))))) bases

one-more : (b : Bool) (p : List (List ℕ)) (paths : List (List (List ℕ))) → cond b (p ∷ paths) paths ≡ cond b (p ∷ []) [] ++ paths
one-more true p paths = refl
one-more false p paths = refl

pub operations-told : (additions : List Addition) → operations_among additions ≡ flat_map operation_by additions
operations-told [] = refl
operations-told (Declares e ∷ additions) =
    ap (λ (paths : List (List (List ℕ))). cond (is_operation e) (e.path ∷ paths) paths) (operations-told additions)
    ∙ one-more (is_operation e) e.path (flat_map operation_by additions)
operations-told (a ∷ additions) = operations-told additions
