-- The entry of a name: its row, and what is wrong with it at the root's end.
use Rattle.std.specs.Prelude.{◌≡◌, ℕ, List, [], ◌++◌, Option, None, Some, if◌then◌else◌}
use Rattle.std.specs.Option.{is_some, unwrap_or}
use Rattle.idl_fault.specs.declared.code.Code.{Code}
use Rattle.idl_fault.specs.declared.code.Code.TheVariants.{NeverDefined, InterfaceNeverDefined}
use Rattle.idl_memo.specs.Query.{Done, Ask, and_then}
use Rattle.idl_repo.specs.Pieces.{written}
use Rattle.idl_repo.specs.Row.{row_pieces}
use Rattle.idl_repo.specs.declared.entry.Entry.{Entry}
use Rattle.idl_repo.specs.declared.entry.Pushed.{Pushed}
use Rattle.idl_env.specs.Facts.{entity_in, entity_key}
use Rattle.idl_entity.specs.Kind.{kind_eq, stage_eq}
use Rattle.idl_scope.specs.Lookup.{Lookup}
use Rattle.idl_entity.specs.declared.entity.Entity.{Entity as ScopeEntity}
use Rattle.idl_entity.specs.declared.kind.Kind.TheVariants.{Interface}
use Rattle.idl_entity.specs.declared.kind.Stage.TheVariants.{Ahead}

-- a struct or union that is declared ahead and never defined is an error, and an interface a warning
abbrev pub closing_fault : ScopeEntity → Option Code
closing_fault e =
    if stage_eq e.stage Ahead
    then Some (if kind_eq e.kind Interface then InterfaceNeverDefined else NeverDefined)
    else None

-- nothing is told where nothing is declared
abbrev pub no_entry : Entry
no_entry = record { row = None; fault = None }

-- that of what is declared so
abbrev pub told_entry : ScopeEntity → List ℕ → Entry
told_entry e text = record { row = Some text; fault = closing_fault e }

abbrev pub declared_entry : ScopeEntity → Lookup Entry
declared_entry e = and_then (written [] (row_pieces e)) (λ text. Done (told_entry e text))

abbrev pub entry_in : Option ScopeEntity → Lookup Entry
entry_in there = elim there [ None ↦ Done no_entry | Some e ↦ declared_entry e ]

-- the entry of the name at a path: what is declared there, and then its row
unfoldable pub entry : List (List ℕ) → Lookup Entry
entry path = Ask (entity_key path) (λ there. entry_in (entity_in there))

-- an entry whose row is written behind others, if it has one, and what is told of it
pub record IsPushed (e : Entry) (pushed : Pushed) (old new : List ℕ) : Type 0 where
  pub row : new ≡ old ++ unwrap_or e.row []
  pub has_row : pushed.has_row ≡ is_some e.row
  pub fault : pushed.fault ≡ e.fault

-- the entry of which this is told, and whose row is all of these bytes
abbrev pub pushed_entry : Pushed → List ℕ → Entry
pushed_entry pushed row =
    record { row = if pushed.has_row then Some row else None; fault = pushed.fault }
