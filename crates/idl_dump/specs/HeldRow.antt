-- What a row is still to be made of, as the code holds it.
use Rattle.idl_dump.specs.Row.{Rest}
use Rattle.idl_dump.specs.declared.row.RowSource.{RowSource as HeldRest}

abbrev pub rest_at : HeldRest → Rest
rest_at rest = record {
  tokens = rest.tokens.now;
  found = rest.found.now;
  values = rest.values.now;
  in_value = rest.in_value;
}
