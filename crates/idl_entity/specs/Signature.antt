-- When two members, or two signatures, are one.
use Rattle.std.specs.Prelude.{◌≡◌, Bool, true, ◌&&◌}
use Rattle.std.specs.Bool.{beq}
use Rattle.std.specs.Cmp.Lexicographic.{bytes_decides, pointwise}
use Rattle.std.specs.Option.{option_eq}
use Rattle.std.specs.Str.{bytes_eq}
use Rattle.idl_base.specs.Exact.{both, same_bool, same_list, same_option}
use Rattle.idl_entity.specs.DataType.{data_type_eq, same_data_type}
use Rattle.idl_entity.specs.Path.{path_eq, same_path}
use Rattle.idl_entity.specs.declared.signature.Member.{Member}
use Rattle.idl_entity.specs.declared.signature.Signature.{Signature}
use Rattle.idl_value.specs.Equal.{text_eq, value_eq}
use Rattle.idl_value.specs.Exact.{same_text, same_value}

-- whether two members are one
abbrev pub member_eq : Member → Member → Bool
member_eq m n =
    bytes_eq m.name n.name
    && (option_eq data_type_eq m.data_type n.data_type
    && (pointwise (option_eq value_eq) m.labels n.labels
    && (beq m.goes_in n.goes_in && beq m.comes_out n.comes_out)))

pub same_member : (m n : Member) → member_eq m n ≡ true → m ≡ n
same_member m n h =
    let a = both _ _ h in
    let b = both _ _ a.1 in
    let c = both _ _ b.1 in
    let d = both _ _ c.1 in
    let name = (bytes_decides m.name n.name).0 a.0 in
    let data_type = same_option data_type_eq same_data_type m.data_type n.data_type b.0 in
    let labels =
    same_list (option_eq value_eq) (same_option value_eq same_value) m.labels n.labels c.0
    in
    let goes_in = same_bool m.goes_in n.goes_in d.0 in
    let comes_out = same_bool m.comes_out n.comes_out d.1 in
    λ i. record {
      name = name i;
      data_type = data_type i;
      labels = labels i;
      goes_in = goes_in i;
      comes_out = comes_out i;
    }

-- whether two signatures are one
abbrev pub signature_eq : Signature → Signature → Bool
signature_eq s t =
    pointwise member_eq s.members t.members
    && (pointwise path_eq s.raised t.raised
    && (pointwise path_eq s.raised_by_set t.raised_by_set
    && pointwise text_eq s.contexts t.contexts))

pub same_signature : (s t : Signature) → signature_eq s t ≡ true → s ≡ t
same_signature s t h =
    let a = both _ _ h in
    let b = both _ _ a.1 in
    let c = both _ _ b.1 in
    let members = same_list member_eq same_member s.members t.members a.0 in
    let raised = same_list path_eq same_path s.raised t.raised b.0 in
    let raised_by_set = same_list path_eq same_path s.raised_by_set t.raised_by_set c.0 in
    let contexts = same_list text_eq same_text s.contexts t.contexts c.1 in
    λ i. record {
      members = members i;
      raised = raised i;
      raised_by_set = raised_by_set i;
      contexts = contexts i;
    }
