-- How a name is looked up: what its parts denote, one after another, how far its use goes, and what
-- is said of it.
use Rattle.std.specs.Prelude.{ℕ, ◌+◌, ◌-◌, List, [], ◌∷◌, ◌++◌, Err, None, Ok, Result, drop, is_some, map, min, scan, slice_get, suc, take, if◌then◌else◌}
use Rattle.std.specs.List.{list_any}
use Rattle.std.specs.Option.{option_to_list}
use Rattle.idl_check.specs.ids.About.{Said, about_entity, refused_for}
use Rattle.idl_check.specs.tables.Rules.{is_no_id, is_no_prefix}
use Rattle.idl_entity.specs.Kind.{is_scope}
use Rattle.idl_entity.specs.declared.entity.Entity.{Entity}
use Rattle.idl_entity.specs.declared.identity.Fixed.TheVariants.{Id}
use Rattle.idl_env.specs.Facts.{over, typeprefix_in}
use Rattle.idl_env.specs.declared.additions.addition.Addition.{Addition}
use Rattle.idl_env.specs.declared.additions.addition.Addition.TheVariants.{TypePrefixes, Uses, UsesFurther}
use Rattle.idl_env.specs.declared.additions.addition.Step.TheVariants.{Stays}
use Rattle.idl_env.specs.declared.answering.answer.Scope.{Scope}
use Rattle.idl_env.specs.declared.keys.key.Key.TheVariants.{Typeprefix}
use Rattle.idl_fault.specs.declared.code.Code.TheVariants as code
use Rattle.idl_lex.specs.kinds.Keywords.{folded}
use Rattle.idl_memo.specs.Query.{Ask, Done, and_then}
use Rattle.idl_parts.specs.declared.part.TextPurpose.{TextPurpose}
use Rattle.idl_parts.specs.declared.part.TextPurpose.TheVariants as text
use Rattle.idl_scope.specs.Lookup.{decided, extent, has, judged, reach_of}
use Rattle.idl_scope.specs.Meaning.{searched, undeclared}
use Rattle.idl_scope.specs.Question.{Lookup}
use Rattle.idl_scope.specs.declared.fault.NameFault.{NameFault}
use Rattle.idl_scope.specs.declared.fault.NameFault.TheVariants.{At}
use Rattle.idl_scope.specs.declared.fault.NameCode.TheVariants.{NoScope}
use Rattle.idl_scope.specs.declared.found.Found.{Found}
use Rattle.idl_scope.specs.declared.found.Reach.{Reach}
use Rattle.idl_tree.specs.declared.name.ScopedName.{ScopedName}
use Rattle.idl_unit.specs.TokenRules.{fault_at}
use Rattle.idl_value.specs.Equal.{path_eq}
use Rattle.idl_value.specs.Spelled.{scope_of}

-- what the further parts denote, each asked of the entity before it, which the part with this
-- number denotes
abbrev pub asked_in : ℕ → ℕ → Entity → List (List ℕ) → Lookup (Result Entity NameFault)
asked_in turns part e [] = Done (Ok e)
asked_in turns part e (name ∷ names) =
    if is_scope e.kind
    then and_then (has turns e.kind e.path (folded name)) (λ found. elim (judged name found) [
      | Ok f ↦ asked_in turns (part + 1) f names
      | Err code ↦ Done (Err (At code (part + 1)))
    ]) else Done (Err (At NoScope part))

-- what a scoped name denotes that stands in these scopes, the innermost of which that has its first
-- part decides what that denotes, and how far that is introduced
abbrev pub asked_of : ℕ → List Scope → ScopedName → Lookup (Result Found NameFault)
asked_of turns cursor name =
    and_then (decided turns 0 (searched name.is_global cursor) (folded name.first)) (λ there.
    elim (judged name.first there.0) [
      | Ok first ↦ and_then (asked_in turns 0 first name.rest) (λ last. Done (elim last [
        | Ok e ↦ Ok (record { entity = e; reach = reach_of name cursor there.1 first })
        | Err fault ↦ Err fault
      ]))
      | Err code ↦ Done (Err (At code 0))
    ])

-- How far the use of a name goes in these scopes: for certain into those inside the one that
-- decides its first part, and into that one where it doesn't declare it itself; and then further
-- outward, where none was asked. With a leading `::` it goes into none.
abbrev pub reach_at : ScopedName → List Scope → ℕ → Entity → Reach
reach_at name cursor inside first =
    let decider = option_to_list (slice_get cursor inside) in
    let itself = list_any (λ s. path_eq (scope_of first.path) s.path) decider in
    let certain = min (if itself then inside else suc inside) (extent cursor) in
    let further = if itself then 0 else extent cursor - suc inside in
    if name.is_global then record { certain = 0; further = 0 }
    else record { certain = certain; further = further }

-- the uses of a folded name in these scopes that go so far, where a unit's earlier tokens add this:
-- one that goes further comes to nothing where it or a scope on the way to it declares the name
abbrev pub uses_at : List ℕ → Reach → List Scope → List Addition → List Addition
uses_at n r scopes own =
    let further = take r.further (drop r.certain scopes) in
    map (λ s. Uses n s.path s.body) (take r.certain scopes)
    ++ scan (λ before s. before ++ s.path ∷ []) (λ before s. UsesFurther n s.path (record {
      body = s.body;
      unless = before ++ s.path ∷ [];
    })) [] (undeclared (λ k. over own k None) n further)

-- what a `typeid` or a `typeprefix` says of what its name denotes, which ends at this token:
-- nothing is added by a text that may not stand there
abbrev pub remark_on : TextPurpose → ℕ → List ℕ → Entity → Lookup Said
remark_on text.Context at t e = Done (refused_for [])
remark_on text.Id at t e =
    and_then (about_entity at (Id t) e)
    (λ s. Done (if is_no_id t then record s { additions = [] } else s))
remark_on text.Prefix at t e =
    if is_scope e.kind then Ask (Typeprefix e.path) (λ a. Done (record {
      faults =
          if is_some (typeprefix_in a) then fault_at at code.RepeatedTypeprefix ∷ [] else [];
      additions = if is_no_prefix t then [] else TypePrefixes e.path t ∷ [];
      step = Stays;
    })) else Done (refused_for (fault_at at code.NoScope ∷ []))
