-- What few entities have.
use Rattle.std.specs.Prelude.{[], Option, None, Some}
use Rattle.idl_entity.specs.declared.details.Details.{Details}
use Rattle.idl_entity.specs.declared.details.Details.TheVariants.{Nothing, Valued, Signed, Several}
use Rattle.idl_entity.specs.declared.details.Rare.{Rare}
use Rattle.idl_entity.specs.declared.signature.Signature.{Signature}
use Rattle.idl_value.specs.declared.value.Value.{Value}

-- a value and a signature alone
abbrev pub listless : Option Value → Option Signature → Rare
listless value signature =
    record {
      bases = [];
      operations = [];
      value = value;
      enumerators = [];
      signature = signature;
    }

-- the parts, each by itself
abbrev pub rare_in : Details → Rare
rare_in Nothing = listless None None
rare_in (Valued value) = listless (Some value) None
rare_in (Signed signature) = listless None (Some signature)
rare_in (Several rare) = rare
