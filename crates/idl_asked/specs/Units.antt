-- What a unit asks, as the table of LANGUAGE tells it: which keys, in no order. Sites stand behind
-- what those before them come to, whatever is wrong there.
use Rattle.std.specs.Prelude.{◌≡◌, ◌⊎◌, ◌≤◌, ℕ, if◌then◌else◌, true, List, [], ◌∷◌, Option, None, Some, Ok, is_some, length}
use Rattle.idl_asked.specs.Ids.{AsksId}
use Rattle.idl_asked.specs.Names.{AsksName, AsksThrough}
use Rattle.idl_check_laws.specs.idl_check.ids.Remarks.{purpose_of}
use Rattle.idl_check_laws.specs.idl_check.tables.Declaring.{entity_of}
use Rattle.idl_check_laws.specs.idl_check.tables.Rules.{has_id, may_be_ahead}
use Rattle.idl_check_laws.specs.idl_check.told.Types.{aliased, path_in}
use Rattle.idl_check_laws.specs.idl_check.walk.Verdict.{first_faults}
use Rattle.idl_check_laws.specs.idl_check.walk.Walk.{Walk, begin_of, first_walk, visit}
use Rattle.idl_check_laws.specs.idl_check.declared.walk.verdict.Verdict.{Verdict}
use Rattle.idl_check_laws.specs.idl_parse.Parse.{pragma_faults}
use Rattle.idl_entity.specs.Kind.{inherits, is_scope}
use Rattle.idl_entity.specs.Path.{name_of}
use Rattle.idl_entity.specs.declared.entity.Entity.{Entity}
use Rattle.idl_env.specs.Facts.{UnitFacts, answers, entity_in, entity_key, scopes_in}
use Rattle.idl_env.specs.declared.additions.addition.Step.{Step}
use Rattle.idl_env.specs.declared.additions.addition.Step.TheVariants.{Opens, OpensNameless}
use Rattle.idl_env.specs.declared.answering.answer.Answer.{Answer}
use Rattle.idl_env.specs.declared.answering.answer.Scope.{Scope}
use Rattle.idl_env.specs.declared.keys.key.Key.{Key}
use Rattle.idl_env.specs.declared.keys.key.Key.TheVariants.{Cursor, Declared, Introduced, Nameless, Opened, Prefix, Typeprefix}
use Rattle.idl_lex.specs.kinds.Keywords.{folded}
use Rattle.idl_memo.specs.Query.{outcome}
use Rattle.idl_parts.specs.Item.{Item, items}
use Rattle.idl_parts.specs.Part.{Part as item}
use Rattle.idl_parts.specs.UnitParts.{unit_parts}
use Rattle.idl_parts.specs.declared.part.Use.{Use}
use Rattle.idl_parts.specs.declared.part.Use.TheVariants.{AsConstantType, AsDiscriminator, AsIdentified, AsPrefixed}
use Rattle.idl_scope.specs.Meaning.{Denotes, bases_at, own_at, seen}
use Rattle.idl_tree.specs.Lexeme.{lexemes}
use Rattle.idl_tree.specs.NameParts.{part_at}
use Rattle.idl_tree.specs.Pragma.{pragma_of}
use Rattle.idl_tree.specs.Unit.{spell}
use Rattle.idl_tree.specs.declared.name.ScopedName.{ScopedName}
use Rattle.idl_tree.specs.declared.pragma.Pragma.{Pragma}
use Rattle.idl_tree.specs.declared.pragma.Pragma.TheVariants as pragma
use Rattle.idl_tree.specs.declared.unit.Tree.{Tree}
use Rattle.idl_unit.specs.TokenRules.{first}
use Rattle.idl_unit.specs.declared.fault.Fault.{Fault}
use Rattle.idl_unit.specs.declared.unit.UnitText.{UnitText}
use Rattle.idl_unit.specs.declared.unit.UnitText.TheVariants as unit

-- a type that is looked through: what a typedef names, and so on from what is declared there
pub data AsksBehind (answers : Key → Option Answer) : Entity → Key → Type 0 where
  Next : {e : Entity} {k : Key} (p : List (List ℕ)) → path_in (aliased e) ≡ Some p
      → k ≡ entity_key p → AsksBehind answers e k
  Further : {e : Entity} {k : Key} (p : List (List ℕ)) (f : Entity) → path_in (aliased e) ≡ Some p
      → entity_in (answers (entity_key p)) ≡ Some f → AsksBehind answers f k
      → AsksBehind answers e k

-- a name that is declared in a scope as this; where it has an id, that of an interface, struct or
-- union declared before, too
abbrev pub AsksDeclared : (Key → Option Answer) → Scope → Entity → Key → Type 0
AsksDeclared answers s e k =
    let n = folded (name_of e.path) in
    ((k ≡ Declared n s.path) ⊎ (k ≡ Introduced n s.path s.body))
    ⊎ (((inherits s.kind ≡ true)
    × ((k ≡ entity_key s.path) ⊎ AsksThrough answers n (bases_at answers s.path) k))
    ⊎ ((has_id e.kind ≡ true)
    × ((k ≡ Prefix)
    ⊎ ((old : Entity) × (own_at answers n s.path ≡ Some old) × (may_be_ahead old.kind ≡ true)
    × AsksId answers old.path k))))

-- what is asked of an entity where a name that denotes it is used so: a type is looked through, an
-- id or typeprefix given
abbrev pub AsksUsed : (Key → Option Answer) → Use → Entity → Key → Type 0
AsksUsed answers AsConstantType e k = AsksBehind answers e k
AsksUsed answers AsDiscriminator e k = AsksBehind answers e k
AsksUsed answers AsIdentified e k = (has_id e.kind ≡ true) × AsksId answers e.path k
AsksUsed answers AsPrefixed e k = (is_scope e.kind ≡ true) × (k ≡ Typeprefix e.path)
AsksUsed answers other e k = ⊥

-- the token at which a question counts that is asked at this one: in an expression, which is read
-- to its end, its first
abbrev pub counted_at : Walk → ℕ → ℕ
counted_at w token = if is_some w.values.begin then begin_of w else token

-- that of a name's part: its own; where an id or typeprefix is given, before whose name nothing is
-- wrong, the name's first
abbrev pub part_token : Walk → Use → ScopedName → ℕ → ℕ
part_token w way name part =
    counted_at w (if is_some (purpose_of way) then w.at else part_at w.at name part)

-- the keys of a site to which a walk has come, each with its token: of a used name those of its
-- parts, and at the last one what is asked of that which the name denotes
abbrev pub AsksAt : (Key → Option Answer) → Item → Walk → ℕ → Key → Type 0
AsksAt answers (item.Declares way name) w token k =
    (s : Scope) × (first w.cursor ≡ Some s)
    × AsksDeclared answers s (entity_of w.written way name s.path) k × (token ≡ counted_at w w.at)
AsksAt answers (item.Uses way name) w token k =
    ((part : ℕ) × AsksName answers w.cursor name part k × (token ≡ part_token w way name part))
    ⊎ ((e : Entity) × Denotes answers w.cursor name (Ok e) × AsksUsed answers way e k
    × (token ≡ part_token w way name (length name.rest)))
AsksAt answers other w token k = ⊥

-- a token that stands not behind that of a fault, if there is one
abbrev pub IsNotPast : Option Fault → ℕ → Type 0
IsNotPast None token = Unit {0}
IsNotPast (Some f) token = token ≤ f.index

-- the keys of sites behind facts that count at tokens not behind the fault's
abbrev pub AsksSites : ℕ → List UnitFacts → Option Fault → List Item → Walk → Key → Type 0
AsksSites turns facts fault [] w k = ⊥
AsksSites turns facts fault (site ∷ sites) w k =
    ((token : ℕ) × AsksAt (seen w.own facts) site w token k × IsNotPast fault token)
    ⊎ AsksSites turns facts fault sites (outcome (visit turns site w) (answers facts)).after k

-- what an opening opens, with a fault how many nameless scopes there were
abbrev pub AsksStep : Step → Key → Type 0
AsksStep (Opens path kind) k = k ≡ Opened path
AsksStep (OpensNameless kind) k = k ≡ Nameless
AsksStep other k = ⊥

-- a pragma that is about the id of a name in these scopes
abbrev pub AsksAbout : (Key → Option Answer) → List Scope → ScopedName → Key → Type 0
AsksAbout answers scopes name k =
    ((part : ℕ) × AsksName answers scopes name part k)
    ⊎ ((e : Entity) × Denotes answers scopes name (Ok e) × AsksUsed answers AsIdentified e k)

abbrev pub AsksPragma : (Key → Option Answer) → List Scope → Pragma → Key → Type 0
AsksPragma answers scopes (pragma.Prefix text) k = ⊥
AsksPragma answers scopes (pragma.Id name text) k = AsksAbout answers scopes name k
AsksPragma answers scopes (pragma.Version name major minor) k = AsksAbout answers scopes name k

-- a unit whose verdict behind facts is this: the open scopes, what it opens, and its sites, unless
-- it has a fault of one of the first two steps
abbrev pub AsksUnit : ℕ → List UnitFacts → UnitText → Verdict → Key → Type 0
AsksUnit turns facts (unit.Tokens tokens) v k =
    let scopes = scopes_in (answers facts Cursor) in
    ((k ≡ Cursor) ⊎ AsksStep v.writes.step k)
    ⊎ ((first_faults tokens scopes ≡ [])
    × (tree : Tree) × (lexemes tokens ≡ spell tree)
    × AsksSites turns facts v.fault (items (unit_parts tree)) (first_walk scopes) k)
AsksUnit turns facts (unit.Pragma tokens inside) v k =
    (k ≡ Cursor)
    ⊎ ((pragma_faults tokens inside ≡ [])
    × (p : Pragma) × (pragma_of tokens ≡ Some p)
    × AsksPragma (answers facts) (scopes_in (answers facts Cursor)) p k)
