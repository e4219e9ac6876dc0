use Rattle.std.proofs.Common.{[], ◌∙◌, ap, inl, inr, sym}
use Rattle.std.proofs.lemmas.Result.{on_ok_weaker}
use Rattle.idl_repo.proofs.WriteLemmas.{grows-as, grows-nothing, grows-then}
use Rattle.idl_repo.specs.Row.{base_pieces, bases_pieces}
use Rattle.idl_repo.specs.TypeCode.{code_pieces, interface_head}
use Rattle.idl_repo.proofs.row_writer.RowWriter.push_behind.Goals as goal

pub returns-in_ok-push_code-in-Interface : goal.returns-in_ok-push_code-in-Interface
returns-in_ok-push_code-in-Interface c =
    let head = c.interface_head.ensures ∙ ap interface_head c.is_local.ensures in
    let code = grows-as (ap (λ h. code_pieces h c.args.entity.now []) head) c.in_ok-push_code-in-Interface.ensures in
    rw (sym c.kind.ensures ∙ c.in-Interface.is)
    (on_ok_weaker c.push_bases.result (λ bases. grows-then code (grows-as (ap bases_pieces c.bases.ensures) bases)) c.push_bases.ensures)

pub returns-in_ok-push_members_code-in-Structure : goal.returns-in_ok-push_members_code-in-Structure
returns-in_ok-push_members_code-in-Structure c =
    rw (sym c.kind.ensures ∙ c.in-Structure.is)
    (on_ok_weaker c.push_base.result (λ base. grows-then c.in_ok-push_members_code-in-Structure.ensures (grows-as (ap base_pieces c.bases-in-Structure.ensures) base)) c.push_base.ensures)

pub returns-in-Union : goal.returns-in-Union
returns-in-Union c = rw (sym c.kind.ensures ∙ c.in-Union.is) c.push_union.ensures

pub returns-in-Exception : goal.returns-in-Exception
returns-in-Exception c = rw (sym c.kind.ensures ∙ c.in-Exception.is) c.push_members_code-in-Exception.ensures

pub returns-in-Enumeration : goal.returns-in-Enumeration
returns-in-Enumeration c = rw (sym c.kind.ensures ∙ c.in-Enumeration.is) c.push_enumeration.ensures

pub returns-in-Alias : goal.returns-in-Alias
returns-in-Alias c = rw (sym c.kind.ensures ∙ c.in-Alias.is) c.push_alias.ensures

pub returns-in-Native : goal.returns-in-Native
returns-in-Native c = rw (sym c.kind.ensures ∙ c.in-Native.is) c.push_code-in-Native.ensures

pub returns-in-Constant : goal.returns-in-Constant
returns-in-Constant c = rw (sym c.kind.ensures ∙ c.in-Constant.is) c.push_constant.ensures

pub returns-in-Attribute : goal.returns-in-Attribute
returns-in-Attribute c = rw (sym c.kind.ensures ∙ c.in-Attribute.is) c.push_attribute.ensures

pub returns-in-Operation : goal.returns-in-Operation
returns-in-Operation c = rw (sym c.kind.ensures ∙ c.in-Operation.is) c.push_operation.ensures

pub returns-in-Module : goal.returns-in-Module
returns-in-Module c =
    elim c.in-Module.is [
      | inl is ↦ rw (sym c.kind.ensures ∙ is) grows-nothing
      | inr (inl is) ↦ rw (sym c.kind.ensures ∙ is) grows-nothing
      | inr (inr (inl is)) ↦ rw (sym c.kind.ensures ∙ is) grows-nothing
      | inr (inr (inr is)) ↦ rw (sym c.kind.ensures ∙ is) grows-nothing
    ]
