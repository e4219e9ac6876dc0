-- What a part of an expression comes to, from the place where it begins, and the place behind it: a
-- line for each form.
use Rattle.std.specs.Prelude.{get_or, length, None}
use Rattle.idl_tree.specs.Expression.{spell_literal}
use Rattle.idl_value.specs.Evaluation.{Operands, Read, admitted, ahead, at_token, behind, literal_value, named, operated, signed_at}
use Rattle.idl_value.specs.Term.{Chain, End, Link, Links, Literally, Named, Parenthesised, Signed, Term}
use Rattle.idl_value.specs.declared.constant_type.ConstantType.{ConstantType}
use Rattle.idl_value.specs.declared.walk.Passed.{Passed}

abbrev mutual
  pub read : ConstantType → Operands → Passed → Term → Read
  read target operands place (Named before) = record {
    evaluation = named target (ahead place.token before) (get_or operands place.name None);
    place = behind (behind place before 0) 1 1;
  }
  read target operands place (Literally l) = record {
    evaluation = at_token place.token (admitted target (literal_value l));
    place = behind place (length (spell_literal l)) 0;
  }
  read target operands place (Parenthesised inner) =
      let r = read target operands (behind place 1 0) inner in
      record r { place = behind r.place 1 0 }
  read target operands place (Signed sign operand) =
      let r = read target operands (behind place 1 0) operand in
      record r { evaluation = signed_at target place.token sign r.evaluation }
  read target operands place (Chain first rest) =
      linked target operands (read target operands place first) rest

  -- operators from the left, each at its token behind the left operand
  pub linked : ConstantType → Operands → Read → Links → Read
  linked target operands left End = left
  linked target operands left (Link operator term rest) =
      let r = read target operands (behind left.place 1 0) term in
      let here = operated target left.place.token operator left.evaluation r.evaluation in
      linked target operands (record r { evaluation = here }) rest
