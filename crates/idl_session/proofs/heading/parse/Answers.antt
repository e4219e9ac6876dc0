use Rattle.std.proofs.Common.{◌≡◌, ◌∷◌, List, ℕ, Option, None, Some, Bor, IfSome, eqb, []}
use Rattle.std.specs.List.{slice_split}
use Rattle.std.specs.Option.{MatchOption}
use Rattle.idl_source.specs.texts.Line.{IsLine}
use Rattle.idl_session.proofs.HeadingLemmas.{IsLine-rest}
use Rattle.idl_session.proofs.heading.parse.Goals as goal

rest_line : (line first : List ℕ) (rest : Option (Bor (List ℕ)))
    → MatchOption rest (slice_split (λ b. eqb b 32) line ≡ first ∷ []) (λ r. slice_split (λ b. eqb b 32) line ≡ first ∷ slice_split (λ b. eqb b 32) r.now)
    → IsLine line → IfSome rest (λ bytes. IsLine bytes.now)
rest_line line first None parts one_line = tt
rest_line line first (Some rest) parts one_line = IsLine-rest line first rest.now parts one_line

pub parse_define-requires : goal.parse_define-requires
parse_define-requires c = rest_line c.args.line.now c.first_part.result.0.now c.first_part.result.1 c.first_part.ensures.parts c.requires
