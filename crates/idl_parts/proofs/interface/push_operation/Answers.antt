use Rattle.std.proofs.Common.{[], ◌∷◌, ◌++◌, refl}
use Rattle.idl_lex.specs.declared.kinds.mark.Mark.TheVariants.{CloseParenthesis, OpenParenthesis}
use Rattle.idl_parts.specs.Part.{Declares, Parts, ScopeBegins, ScopeEnds, if_some, listed, punctuation}
use Rattle.idl_parts.specs.UnitParts.{context_parts, oneway_parts, parameter_parts, raises_parts, result_parts}
use Rattle.idl_parts.specs.declared.part.Declaration.TheVariants as declaration
use Rattle.idl_parts.proofs.PushLemmas.{pushes-append, pushes-one}
use Rattle.idl_parts.proofs.interface.push_operation.Goals as goal

pub returns : goal.returns
returns c =
    let o = c.args.operation.now in
    let s1 = c.push_oneway.new.sites.items in
    let s2 = c.push_result.new.sites.items in
    let s3 = c.push.new.self.items in
    let s4 = c.push-2.new.self.items in
    let s5 = c.push-3.new.self.items in
    let s6 = c.push_parameters.new.sites.items in
    let s7 = c.push-4.new.self.items in
    let s8 = c.push_raises.new.sites.items in
    let s9 = c.push_context.new.sites.items in
    let z = c.push-5.new.self.items in
    let context : Parts = if_some context_parts o.context in
    let raises : Parts = if_some (raises_parts o.is_oneway) o.raises in
    let parameters : Parts = if_some (listed (parameter_parts o.is_oneway)) o.parameters in
    let last : Parts = raises ++ (context ++ ScopeEnds ∷ []) in
    let inside : Parts = parameters ++ punctuation CloseParenthesis ∷ last in
    let behind : Parts = ScopeBegins (declaration.Operation o.is_oneway) o.name ∷ punctuation OpenParenthesis ∷ inside in
    let named : Parts = Declares (declaration.Operation o.is_oneway) o.name ∷ behind in
    pushes-append c.args.sites.now.items s1 z (oneway_parts o.is_oneway) (result_parts o.is_oneway o.result ++ named) c.in_ok-push_oneway.ensures
    (pushes-append s1 s2 z (result_parts o.is_oneway o.result) named c.in_ok-push_result.ensures
    (pushes-append s2 s3 z (Declares (declaration.Operation o.is_oneway) o.name ∷ []) behind (pushes-one s2 s3 _ (Declares (declaration.Operation o.is_oneway) o.name) c.in_ok-push.ensures.items refl)
    (pushes-append s3 s4 z (ScopeBegins (declaration.Operation o.is_oneway) o.name ∷ []) (punctuation OpenParenthesis ∷ inside) (pushes-one s3 s4 _ (ScopeBegins (declaration.Operation o.is_oneway) o.name) c.in_ok-push-2.ensures.items refl)
    (pushes-append s4 s5 z (punctuation OpenParenthesis ∷ []) inside (pushes-one s4 s5 _ (punctuation OpenParenthesis) c.in_ok-push-3.ensures.items refl)
    (pushes-append s5 s6 z parameters (punctuation CloseParenthesis ∷ last) c.in_ok-push_parameters.ensures
    (pushes-append s6 s7 z (punctuation CloseParenthesis ∷ []) last (pushes-one s6 s7 _ (punctuation CloseParenthesis) c.in_ok-push-4.ensures.items refl)
    (pushes-append s7 s8 z raises (context ++ ScopeEnds ∷ []) c.in_ok-push_raises.ensures
    (pushes-append s8 s9 z context (ScopeEnds ∷ []) c.in_ok-push_context.ensures (pushes-one s9 z _ ScopeEnds c.in_ok-push-5.ensures.items refl)))))))))
