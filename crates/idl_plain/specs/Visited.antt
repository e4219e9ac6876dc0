-- What comes of the sites of a unit over the answers before it. Nothing is asked on the way.
use Rattle.std.specs.Prelude.{◌&&◌, ◌+◌, ◌++◌, [], ◌∷◌, Err, None, Ok, Option, Some, drop, fold, is_some, not, take, true, ℕ, if◌then◌else◌}
use Rattle.std.specs.List.{list_any}
use Rattle.std.specs.Option.{option_to_list}
use Rattle.idl_check.specs.ids.About.{unnamed_faults}
use Rattle.idl_check.specs.ids.Remarks.{is_bad_text, purpose_of, remark}
use Rattle.idl_check.specs.tables.Declaring.{entity_of}
use Rattle.idl_check.specs.tables.Rules.{has_id, is_useless_default, may_be_ahead}
use Rattle.idl_check.specs.tables.Using.{name_code}
use Rattle.idl_check.specs.told.Bodies.{array_of, told_innermost, with_array_type, with_body_label, with_innermost, with_text}
use Rattle.idl_check.specs.told.Labels.{no_labels, with_label}
use Rattle.idl_check.specs.told.Types.{looked_through, target_in, written_as}
use Rattle.idl_check.specs.told.Values.{evaluation_for, number_of, with_operand}
use Rattle.idl_check.specs.walk.AllFaults.{evaluation_faults}
use Rattle.idl_check.specs.walk.Walk.{Visit, Walk, faulty_if, label_target, quiet, turns_at, with_labels, with_scope}
use Rattle.idl_check.specs.declared.tables.standing.Standing.{Standing}
use Rattle.idl_entity.specs.DataType.{plain_type}
use Rattle.idl_entity.specs.Entity.{is_operation}
use Rattle.idl_entity.specs.Kind.{inherits, kind_eq}
use Rattle.idl_entity.specs.Path.{name_of}
use Rattle.idl_entity.specs.declared.data_type.Element.TheVariants.{Constants, Named}
use Rattle.idl_entity.specs.declared.entity.Entity.{Entity}
use Rattle.idl_entity.specs.declared.kind.Kind.TheVariants.{Union}
use Rattle.idl_entity.specs.declared.identity.Identity.{Identity}
use Rattle.idl_env.specs.Facts.{over, prefix_in, with_addition}
use Rattle.idl_env.specs.declared.additions.addition.Addition.TheVariants.{Declares}
use Rattle.idl_env.specs.declared.answering.answer.Answer.{Answer}
use Rattle.idl_env.specs.declared.answering.answer.Scope.{Scope}
use Rattle.idl_env.specs.declared.keys.key.Key.{Key}
use Rattle.idl_env.specs.declared.keys.key.Key.TheVariants.{Introduced, Prefix}
use Rattle.idl_fault.specs.declared.code.Code.TheVariants as code
use Rattle.idl_lex.specs.kinds.Keywords.{folded}
use Rattle.idl_memo.specs.Query.{outcome}
use Rattle.idl_parts.specs.Item.{Item, item_length}
use Rattle.idl_parts.specs.Part.{Part as item}
use Rattle.idl_parts.specs.declared.part.Purpose.{Purpose}
use Rattle.idl_parts.specs.declared.part.Purpose.TheVariants as purpose
use Rattle.idl_parts.specs.declared.part.TextPurpose.{TextPurpose}
use Rattle.idl_parts.specs.declared.part.Use.{Use}
use Rattle.idl_parts.specs.declared.part.Use.TheVariants.{AsDiscriminator, AsOperand}
use Rattle.idl_plain.specs.Declared.{declared_at}
use Rattle.idl_plain.specs.Used.{used_at}
use Rattle.idl_scope.specs.Known.{known}
use Rattle.idl_scope.specs.Lookup.{denoted, is_nothing, reached}
use Rattle.idl_scope.specs.Meaning.{bases_at, own_at}
use Rattle.idl_scope.specs.declared.fault.NameFault.{NameFault}
use Rattle.idl_scope.specs.declared.fault.NameFault.TheVariants.{At, Memory}
use Rattle.idl_tree.specs.NameParts.{last_at, part_at}
use Rattle.idl_tree.specs.declared.name.ScopedName.{ScopedName}
use Rattle.idl_unit.specs.TokenRules.{fault_at, first}
use Rattle.idl_value.specs.ConstantType.{target_of}
use Rattle.idl_value.specs.Evaluation.{Evaluation, Faulty, Valued, joined}
use Rattle.idl_value.specs.declared.value.Value.{Value}

-- what the value of an expression is for, behind it
abbrev pub kept : Purpose → Value → Walk → Walk
kept purpose.Bound v w = record w { values = record w.values { bound = number_of v } }
kept purpose.Constant v w = record w { values = record w.values { constant = Some v } }
kept purpose.Length v w =
    let lengths = w.values.lengths ++ option_to_list (number_of v) in
    record w { values = record w.values { lengths = lengths } }
kept purpose.Label v w = record w {
  unions = with_labels (λ l. with_label l v) w.unions;
  bodies = with_body_label (Some v) w.bodies;
}

-- behind an expression that came to this
abbrev pub valued : Walk → Purpose → Evaluation → Walk
valued w way (Valued v) =
    let told = w.values.told ++ v ∷ [] in
    kept way v (record w { values = record w.values { begin = None; told = told } })
valued w way (Faulty faults) = record w { values = record w.values { begin = None } }

-- behind a used name that denotes nothing
abbrev pub unfound : Use → Walk → Walk
unfound AsOperand w = record w { values = with_operand None w.values }
unfound AsDiscriminator w = record w { unions = no_labels None 0 ∷ w.unions }
unfound other w = w

-- the same, with its fault at the part that has it
abbrev pub unfound_at : Walk → Use → ScopedName → NameFault → Visit
unfound_at w way name (At why part) = record {
  faults = fault_at (part_at w.at name part) (name_code why) ∷ [];
  after = unfound way (record w { at = last_at w.at name + 1 });
}
unfound_at w way name Memory = quiet w

-- behind the end of a scope: it is a type from then on, and no `default` is where all values of a
-- union's labels are
abbrev pub scope_left : Walk → Visit
scope_left w =
    elim (first w.cursor) [
      | None ↦ quiet w
      | Some s ↦
          let is_union = kind_eq s.kind Union in
          faulty_if (is_union && is_useless_default w.unions) code.UselessDefault w (record w {
            cursor = drop 1 w.cursor;
            begun = w.begun ++ told_innermost w.clauses w.bodies;
            written = record w.written { data_type = Some (plain_type (Named s.path)) };
            bodies = drop 1 w.bodies;
            unions = if is_union then drop 1 w.unions else w.unions;
          })
    ]

-- behind the lengths of an array, which what was declared last is
abbrev pub array_left : Walk → Walk
array_left w =
    let ended = record w { values = record w.values { lengths = [] } } in
    elim w.last [
      | None ↦ ended
      | Some e ↦ let array = array_of w.values.lengths e in record ended {
        own = with_addition w.own (Declares array);
        bodies = with_innermost (with_array_type array) w.bodies;
      }
    ]

-- what stands in a scope under the name of what is declared there, over these answers
abbrev pub standing_at : ℕ → (Key → Option Answer) → Scope → Entity → Standing
standing_at turns answers s e =
    let n = folded (name_of e.path) in
    let there = own_at answers n s.path in
    let bases = bases_at answers s.path in
    let found = if inherits s.kind then outcome (reached turns n bases) answers else [] in
    let before : Option Identity = elim there [
      | None ↦ None
      | Some old ↦ if may_be_ahead old.kind then outcome (known old.path) answers else None
    ] in
    record {
      there = there;
      is_used = is_some (answers (Introduced n s.path s.body));
      brings_operation = list_any is_operation found;
      is_reached = not (is_nothing found);
      ids =
          if has_id e.kind then Some (record { prefix = prefix_in (answers Prefix); before = before })
          else None;
    }

module _ (turns : ℕ) (answers : Key → Option Answer) where
  -- the answers at a site: those before the unit, as its tokens before the site change them
  abbrev pub seen_at : Walk → Key → Option Answer
  seen_at w key = over w.own key (answers key)

  -- a used name, by what it denotes, and by what stands behind that
  abbrev pub named_at : Use → ScopedName → Walk → Visit
  named_at way name w = elim (outcome (denoted (turns_at turns w) w.cursor name) (seen_at w)) [
    | Err fault ↦ unfound_at w way name fault
    | Ok found ↦ used_at w way name found
        (outcome (looked_through (turns_at turns w) way found.entity) (seen_at w))
  ]

  -- a name of which a text says something: it introduces nothing
  abbrev pub spoken_at : TextPurpose → ScopedName → Walk → Visit
  spoken_at purpose name w =
      let behind = record w { at = last_at w.at name + 1 } in
      elim (outcome (denoted (turns_at turns w) w.cursor name) (seen_at w)) [
        | Err fault ↦ record { faults = unnamed_faults w.at name fault; after = behind }
        | Ok found ↦
            let s = outcome (remark purpose (last_at w.at name) w.text found.entity) (seen_at w) in
            record {
              faults = s.faults;
              after = record behind {
                own = fold with_addition w.own s.additions;
                found = w.found ++ found.entity.path ∷ [];
              };
            }
      ]

  -- a site: all its faults, and how the walk goes on
  abbrev pub visited : Item → Walk → Visit
  visited (item.Declares way name) w = elim (first w.cursor) [
    | None ↦ quiet (record w { at = w.at + 1 })
    | Some s ↦ let e = entity_of w.written way name s.path in
        declared_at w way s e (standing_at (turns_at turns w) (seen_at w) s e)
  ]
  visited (item.Uses way name) w = elim (purpose_of way) [
    | None ↦ named_at way name w
    | Some purpose ↦ spoken_at purpose name w
  ]
  visited (item.ScopeBegins way name) w = quiet (record w {
    cursor = with_scope way name w.cursor;
    bodies =
        record { entity = w.last; data_type = w.written.data_type; members = []; labels = [] }
        ∷ w.bodies;
  })
  visited item.ScopeEnds w = scope_left w
  visited item.ValueBegins w =
      quiet (record w { values = record w.values { begin = Some w.at; operands = [] } })
  visited (item.ValueEnds way e) w =
      let label = label_target w.unions in
      let v = evaluation_for way w.written.constants label w.values.operands e in
      record { faults = evaluation_faults w way v; after = valued w way v }
  visited (item.TypeEnds shape) w =
      let t = written_as shape w.values.bound w.written.data_type in
      quiet (record w { written = record w.written { data_type = t; constants = target_in t } })
  visited item.ArrayEnds w = quiet (array_left w)
  visited (item.Enumerates names) w =
      quiet (record w { written = record w.written { enumerators = names.first ∷ names.rest } })
  visited (item.Identifies text) w = quiet (record w { text = joined text })
  visited (item.Switches discrete) w =
      let t = target_of discrete in
      quiet (record w {
        written = record w.written { data_type = Some (plain_type (Constants t)) };
        unions = no_labels (Some t) 0 ∷ w.unions;
      })
  visited item.Default w =
      faulty_if (list_any (λ l. l.has_default) (take 1 w.unions)) code.RepeatedLabel w
      (record w {
        unions = with_labels (λ l. record l { has_default = true }) w.unions;
        bodies = with_body_label None w.bodies;
      })
  visited item.GivesBack w = record { faults = fault_at w.at code.BadOneway ∷ []; after = w }
  visited (item.Plain n) w = quiet (record w { at = w.at + n })
  visited (item.Says purpose text) w =
      faulty_if (is_bad_text purpose (joined text)) code.BadIdText w
      (record w {
        at = w.at + item_length (item.Says purpose text);
        clauses = with_text purpose text w.clauses;
      })
