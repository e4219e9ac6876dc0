-- What `typeid` and `typeprefix` say of what their name denotes, by the text that stands behind it. A
-- `typeid` says what the pragma of an id does.
use Rattle.std.specs.Prelude.{ℕ, Bool, false, List, [], ◌∷◌, map, option_to_list, Option, None, Some, if◌then◌else◌}
use Rattle.idl_check.specs.ids.About.{Said, about_entity, refused_for}
use Rattle.idl_check.specs.tables.Codes.{faults_by}
use Rattle.idl_check.specs.tables.Rules.{is_no_id, is_no_prefix, is_prefixed}
use Rattle.idl_check.specs.declared.ids.remark.Remark.{Remark}
use Rattle.idl_env.specs.Facts.{typeprefix_in}
use Rattle.idl_env.specs.declared.additions.addition.Addition.TheVariants.{TypePrefixes}
use Rattle.idl_env.specs.declared.additions.addition.Step.TheVariants.{Stays}
use Rattle.idl_env.specs.declared.answering.answer.Answer.{Answer}
use Rattle.idl_env.specs.declared.keys.key.Key.TheVariants.{Typeprefix}
use Rattle.idl_entity.specs.Kind.{is_scope}
use Rattle.idl_entity.specs.declared.entity.Entity.{Entity}
use Rattle.idl_entity.specs.declared.identity.Fixed.{Fixed}
use Rattle.idl_entity.specs.declared.identity.Fixed.TheVariants.{Id, Version}
use Rattle.idl_fault.specs.declared.code.Code.TheVariants.{NoScope, RepeatedTypeprefix}
use Rattle.idl_memo.specs.Query.{Ask, Done, and_then}
use Rattle.idl_parts.specs.declared.part.TextPurpose.{TextPurpose}
use Rattle.idl_parts.specs.declared.part.TextPurpose.TheVariants as text
use Rattle.idl_parts.specs.declared.part.Use.{Use}
use Rattle.idl_parts.specs.declared.part.Use.TheVariants.{AsIdentified, AsPrefixed}
use Rattle.idl_scope.specs.Lookup.{Lookup}
use Rattle.idl_unit.specs.TokenRules.{fault_at}

-- What the text behind a name is for that is used so, if there is one. Something is said by it of
-- what the name denotes, and the name introduces nothing.
abbrev pub purpose_of : Use → Option TextPurpose
purpose_of AsIdentified = Some text.Id
purpose_of AsPrefixed = Some text.Prefix
purpose_of other = None

-- whether a text may not be what it is for
abbrev pub is_bad_text : TextPurpose → List ℕ → Bool
is_bad_text text.Context t = false
is_bad_text text.Id t = is_no_id t
is_bad_text text.Prefix t = is_no_prefix t

-- said of a scope at a path, whose name ends at this token: that this is its typeprefix from then on
abbrev pub prefixed_at : ℕ → List ℕ → List (List ℕ) → Option Answer → Said
prefixed_at at prefix path answer = record {
  faults = faults_by at ((is_prefixed (typeprefix_in answer), RepeatedTypeprefix) ∷ []);
  additions = TypePrefixes path prefix ∷ [];
  step = Stays;
}

abbrev pub about_scope : ℕ → List ℕ → Entity → Lookup Said
about_scope at prefix e =
    if is_scope e.kind
    then Ask (Typeprefix e.path) (λ answer. Done (prefixed_at at prefix e.path answer))
    else Done (refused_for (fault_at at NoScope ∷ []))

-- what a text says of an entity whose name ends at this token
abbrev pub said_by_text : TextPurpose → ℕ → List ℕ → Entity → Lookup Said
said_by_text text.Context at t e = Done (refused_for [])
said_by_text text.Id at t e = about_entity at (Id t) e
said_by_text text.Prefix at t e = about_scope at t e

-- it adds nothing where it may not be what it is for
abbrev pub unless : Bool → Said → Said
unless is_bad s = if is_bad then record s { additions = [] } else s

abbrev pub remark : TextPurpose → ℕ → List ℕ → Entity → Lookup Said
remark purpose at t e =
    and_then (said_by_text purpose at t e) (λ s. Done (unless (is_bad_text purpose t) s))

-- of an id the same: whether what is fixed of it may not be that, and what is then said of an
-- entity
abbrev pub is_bad_id : Fixed → Bool
is_bad_id (Id t) = is_no_id t
is_bad_id (Version major minor) = false

abbrev pub identified : ℕ → Fixed → Entity → Lookup Said
identified at change e =
    and_then (about_entity at change e) (λ s. Done (unless (is_bad_id change) s))

-- a remark on what has a name that ends at this token
abbrev pub remarked : ℕ → Remark → Said
remarked at r = record {
  faults = map (fault_at at) (option_to_list r.code);
  additions = option_to_list r.adds;
  step = Stays;
}
