-- What is one thing with a value, or of a choice, and another without it.
use Rattle.std.proofs.Common.{◌≡◌, ◌&&◌, ◌∷◌, [], Bool, List, None, Option, Some, codes, cond, drop, false, filter, refl, slice_get, true, ℕ}
use Rattle.std.specs.Option.{option_and_then, option_map, option_map_or, option_to_list, unwrap_or}
use Rattle.std.specs.Prelude.{if◌then◌else◌}
use Rattle.idl_check.specs.tables.Rules.{is_there}
use Rattle.idl_check.specs.told.Bodies.{Clauses, array_type, raises, raising}
use Rattle.idl_check.specs.told.Types.{may_switch, path_in, target_in}
use Rattle.idl_check.specs.told.Values.{evaluation_in}
use Rattle.idl_entity.specs.DataType.{constants_in, named_in, with_arrays}
use Rattle.idl_entity.specs.Identity.{prefix_told, told}
use Rattle.idl_entity.specs.Kind.{has_bases, kind_eq}
use Rattle.idl_entity.specs.Path.{name_of}
use Rattle.idl_entity.specs.declared.data_type.DataType.{DataType}
use Rattle.idl_entity.specs.declared.entity.Entity.{Entity}
use Rattle.idl_entity.specs.declared.identity.Identity.{Identity}
use Rattle.idl_entity.specs.declared.identity.Prefix.{Prefix}
use Rattle.idl_entity.specs.declared.kind.Kind.TheVariants.{Attribute}
use Rattle.idl_env.specs.Facts.{operations_of}
use Rattle.idl_macro.specs.Condition.{taken_by, truth}
use Rattle.idl_memo.specs.Query.{Done, and_then}
use Rattle.idl_parts.specs.Part.{GivesBack}
use Rattle.idl_parts.specs.UnitParts.{given_back}
use Rattle.idl_scope.specs.Known.{id_of, known, told_of}
use Rattle.idl_scope.specs.Meaning.{bases_of}
use Rattle.idl_source.specs.names.Path.{slashed, text_down}
use Rattle.idl_tree.specs.Interface.{spell_local}
use Rattle.idl_tree.specs.Lexeme.{Punctuation, Word}
use Rattle.idl_tree.specs.Name.{spell_leading}
use Rattle.idl_tree.specs.declared.expression.Expression.{Expression}
use Rattle.idl_lex.specs.declared.kinds.keyword.Keyword.TheVariants.{Local}
use Rattle.idl_lex.specs.declared.kinds.mark.Mark.TheVariants.{ColonColon}
use Rattle.idl_value.specs.ConstantType.{discriminates}
use Rattle.idl_value.specs.Evaluation.{Faulty, Operands, value_of}
use Rattle.idl_value.specs.Spelled.{scope_of, truth_word}
use Rattle.idl_value.specs.Term.{leading}
use Rattle.idl_value.specs.declared.constant_type.ConstantType.{ConstantType}

pub path-told : (t : Option DataType) → path_in t ≡ option_and_then named_in t
path-told None = refl
path-told (Some t) = refl

pub target-told : (t : Option DataType) → target_in t ≡ option_and_then constants_in t
target-told None = refl
target-told (Some t) = refl

pub switch-told : (t : Option ConstantType) → may_switch t ≡ option_map_or discriminates t false
switch-told None = refl
switch-told (Some t) = refl

pub value-told : (t : Option ConstantType) (operands : Operands) (e : Expression) → evaluation_in t operands e ≡ option_map_or (λ t. value_of t operands e) t (Faulty [])
value-told None operands e = refl
value-told (Some t) operands e = refl

pub there-told : (old : Option Entity) (test : Entity → Bool) → is_there old test ≡ option_map_or test old false
there-told None test = refl
there-told (Some e) test = refl

pub bases-told : (e : Option Entity) → bases_of e ≡ option_map_or (λ e. if has_bases e.stage then e.bases else []) e []
bases-told None = refl
bases-told (Some e) = refl

pub operations-told : (e : Option Entity) → operations_of e ≡ option_map_or (λ e. e.operations) e []
operations-told None = refl
operations-told (Some e) = refl

kept : (e : Entity) (b : Bool) → (if b then e ∷ [] else []) ≡ cond b (e ∷ []) []
kept e true = refl
kept e false = refl

pub raised-told : (e : Option Entity) (clauses : Clauses) → raising e clauses ≡ filter (λ e. kind_eq e.kind Attribute && raises clauses) (option_to_list e)
raised-told None clauses = refl
raised-told (Some e) clauses = kept e (kind_eq e.kind Attribute && raises clauses)

pub array-told : (lengths : List ℕ) (t : Option DataType) → array_type lengths t ≡ option_map (with_arrays lengths) t
array-told lengths None = refl
array-told lengths (Some t) = refl

pub prefix-told : (text : Option (List ℕ)) (p : Prefix) → prefix_told text p ≡ option_map_or (λ t. record { text = t; scope = [] }) text p
prefix-told None p = refl
prefix-told (Some t) p = refl

told-by : (path : List (List ℕ)) (d : Option Identity) → told_of path d ≡ option_map_or (told path) d []
told-by path None = refl
told-by path (Some d) = refl

pub id-told : (path : List (List ℕ)) → id_of path ≡ and_then (known path) (λ d. Done (option_map_or (told path) d []))
id-told path = λ i. and_then (known path) (λ d. Done (told-by path d i))

pub taken-told : (name : Option (List ℕ × ℕ)) → taken_by name ≡ option_map_or (λ n. n.1) name 0
taken-told None = refl
taken-told (Some n) = refl

pub truth-told : (b : Bool) → truth b ≡ (if b then codes "1" else codes "0")
truth-told true = refl
truth-told false = refl

pub word-told : (b : Bool) → truth_word b ≡ (if b then codes "TRUE" else codes "FALSE")
word-told true = refl
word-told false = refl

pub count-told : (b : Bool) → leading b ≡ (if b then 1 else 0)
count-told true = refl
count-told false = refl

pub mark-told : (b : Bool) → spell_leading b ≡ (if b then Punctuation ColonColon ∷ [] else [])
mark-told true = refl
mark-told false = refl

pub local-told : (b : Bool) → spell_local b ≡ (if b then Word Local ∷ [] else [])
local-told true = refl
local-told false = refl

pub back-told : (b : Bool) → given_back b ≡ (if b then GivesBack ∷ [] else [])
back-told true = refl
back-told false = refl

pub text-told : (rooted : Bool) (segments : List (List ℕ)) → text_down rooted segments ≡ drop (if rooted then 0 else 1) (slashed segments)
text-told true segments = refl
text-told false segments = refl

pub name-told : (path : List (List ℕ)) → name_of path ≡ unwrap_or (slice_get path 0) []
name-told [] = refl
name-told (n ∷ scope) = refl

pub scope-told : (path : List (List ℕ)) → scope_of path ≡ drop 1 path
scope-told [] = refl
scope-told (n ∷ scope) = refl
