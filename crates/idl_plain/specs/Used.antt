-- Used names: a line for each use, with what the name may denote there, and what is wrong with it.
use Rattle.std.specs.Prelude.{◌&&◌, ◌+◌, ◌++◌, Bool, true, [], ◌∷◌, None, Some, is_none, is_some, length, not, if◌then◌else◌}
use Rattle.std.specs.List.{list_any}
use Rattle.idl_check.specs.tables.Codes.{Table, faults_by}
use Rattle.idl_check.specs.tables.Rules.{is_another, is_incomplete, is_type}
use Rattle.idl_check.specs.tables.Using.{Bases, with_base, with_uses}
use Rattle.idl_check.specs.told.Labels.{no_labels}
use Rattle.idl_check.specs.told.Types.{constants_of, may_switch}
use Rattle.idl_check.specs.told.Values.{with_operand}
use Rattle.idl_check.specs.walk.Walk.{Visit, Walk}
use Rattle.idl_entity.specs.DataType.{plain_type}
use Rattle.idl_entity.specs.Kind.{kind_eq, stage_eq}
use Rattle.idl_entity.specs.declared.data_type.Element.TheVariants.{Named}
use Rattle.idl_entity.specs.declared.entity.Entity.{Entity}
use Rattle.idl_entity.specs.declared.kind.Kind.TheVariants.{Exception, Interface, Structure}
use Rattle.idl_entity.specs.declared.kind.Stage.TheVariants.{Complete, Open}
use Rattle.idl_env.specs.Facts.{with_addition}
use Rattle.idl_env.specs.declared.additions.addition.Addition.TheVariants.{Declares}
use Rattle.idl_fault.specs.declared.code.Code.TheVariants as code
use Rattle.idl_lex.specs.kinds.Keywords.{folded}
use Rattle.idl_parts.specs.declared.part.Use.{Use}
use Rattle.idl_parts.specs.declared.part.Use.TheVariants as way
use Rattle.idl_scope.specs.declared.found.Found.{Found}
use Rattle.idl_tree.specs.NameParts.{last_at}
use Rattle.idl_tree.specs.declared.name.ScopedName.{ScopedName}
use Rattle.idl_value.specs.Equal.{path_eq}

-- whether a name that is used so may denote this, and the rules then, by the bases before it, and by
-- what stands behind it through typedefs
abbrev pub rules_of_used : Use → Bases → Entity → Entity → Bool × Table
rules_of_used (way.AsBase is_local) bases e behind = (
  kind_eq e.kind Interface,
  (not (stage_eq e.stage Complete), code.IncompleteBase)
      ∷ (list_any (path_eq e.path) bases.paths, code.RepeatedBase)
      ∷ (list_any (is_another bases.operations) e.operations, code.DeclaredAgain)
      ∷ (e.is_local && not is_local, code.LocalBase) ∷ [],
)
rules_of_used way.AsStructBase bases e behind =
    (kind_eq e.kind Structure, (is_incomplete e, code.IncompleteType) ∷ [])
rules_of_used way.AsType bases e behind =
    (is_type e.kind, (is_incomplete e, code.IncompleteType) ∷ [])
rules_of_used way.AsElement bases e behind = (is_type e.kind, [])
rules_of_used way.AsConstantType bases e behind = (
  is_type e.kind,
  (is_none (constants_of behind), code.NoConstantType) ∷ (is_incomplete e, code.IncompleteType) ∷ [],
)
rules_of_used way.AsDiscriminator bases e behind = (
  is_type e.kind,
  (is_incomplete e, code.IncompleteType)
      ∷ (not (may_switch (constants_of behind)), code.BadDiscriminator) ∷ [],
)
rules_of_used way.AsOperand bases e behind = (is_some e.value, [])
rules_of_used way.Raised bases e behind = (kind_eq e.kind Exception, [])
rules_of_used way.RaisedBySet bases e behind = (kind_eq e.kind Exception, [])
rules_of_used other bases e behind = (true, [])

-- a walk behind a name that denotes this, whose first part is introduced as far as its use goes
abbrev pub introduced : Walk → ScopedName → Found → Walk
introduced w name found = record w {
  at = last_at w.at name + 1;
  own = with_uses (folded name.first) found.reach w.cursor w.own;
  found = w.found ++ found.entity.path ∷ [];
}

-- a walk behind the name of a type, which is now the one that was written last
abbrev pub typed : Entity → Walk → Walk
typed e w =
    record w { written = record w.written { data_type = Some (plain_type (Named e.path)) } }

-- how a walk goes on behind a name that is used so and denotes this, beside what every use does
abbrev pub walk_behind : Use → Entity → Entity → Walk → Walk
walk_behind (way.AsBase is_local) e behind w = record w { bases = with_base e w.bases }
walk_behind way.AsStructBase e behind w =
    elim w.last [
      | None ↦ w
      | Some s ↦ let s = record s { stage = Open; bases = e.path ∷ [] } in
          record w { last = Some s; own = with_addition w.own (Declares s) }
    ]
walk_behind way.AsType e behind w = typed e w
walk_behind way.AsElement e behind w = typed e w
walk_behind way.AsConstantType e behind w =
    let t = typed e w in
    record t { written = record t.written { constants = constants_of behind } }
walk_behind way.AsDiscriminator e behind w =
    record (typed e w) {
      unions = no_labels (constants_of behind) (length behind.enumerators) ∷ w.unions;
    }
walk_behind way.AsOperand e behind w = record w { values = with_operand e.value w.values }
walk_behind way.Raised e behind w =
    record w { clauses = record w.clauses { raised = w.clauses.raised ++ e.path ∷ [] } }
walk_behind way.RaisedBySet e behind w = record w {
  clauses = record w.clauses { raised_by_set = w.clauses.raised_by_set ++ e.path ∷ [] };
}
walk_behind other e behind w = w

-- what comes of the use of a name that denotes this, behind which that stands through typedefs
abbrev pub used_at : Walk → Use → ScopedName → Found → Entity → Visit
used_at w way name found behind =
    let rules = rules_of_used way w.bases found.entity behind in
    let table = if rules.0 then rules.1 else (true, code.WrongKind) ∷ [] in
    record {
      faults = faults_by (last_at w.at name) table;
      after = walk_behind way found.entity behind (introduced w name found);
    }
