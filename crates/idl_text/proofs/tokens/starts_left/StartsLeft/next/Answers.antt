use Rattle.std.proofs.Common.{◌≡◌, ◌∙◌, ◌∷◌, List, ap, drop, length, sym}
use Rattle.idl_lex.specs.bytes.Columns.{behind_gaps}
use Rattle.idl_lex.specs.declared.bytes.text_left.TextByte.{TextByte}
use Rattle.idl_lex.specs.declared.tokens.token.PlacedToken.{PlacedToken}
use Rattle.idl_text.specs.Starts.{starts_in}
use Rattle.idl_text.proofs.StartLemmas.{starts_in-next, starts_in-nil, starts_in-past}
use Rattle.idl_text.proofs.tokens.starts_left.StartsLeft.next.Goals as goal

pub returns-in_default : goal.returns-in_default
returns-in_default c =
    let left = c.args.self.now in
    ap (λ (ts : List PlacedToken). starts_in ts left.text) c.in_default.ensures ∙ starts_in-nil left.text

pub returns-in_default-split_first : goal.returns-in_default-split_first
returns-in_default-split_first c =
    let left = c.args.self.now in
    starts_in-past left.tokens left.text (sym c.behind_gaps-text.ensures ∙ c.in_default-split_first.ensures)

pub returns : goal.returns
returns c =
    let left = c.args.self.now in
    let t = c.in-Some.token in
    let others = c.in-Some.others in
    let first = c.in-Some-split_first.first in
    let here : behind_gaps left.text ≡ first ∷ c.in-Some-split_first._rest = sym c.behind_gaps-text.ensures ∙ c.in-Some-split_first.ensures in
    let size : length c.as_bytes.result.now ≡ length t.token = ap length (c.as_bytes.ensures ∙ c.token.ensures) in
    let behind : drop (length t.token) (behind_gaps left.text) ≡ c.behind_bytes-self.result =
    sym (c.behind_bytes-self.ensures ∙ (λ i. drop (size i) (c.behind_gaps-text.ensures i))) in
    ap (λ (ts : List PlacedToken). starts_in ts left.text) c.in-Some.ensures
    ∙ starts_in-next t others left.text first c.in-Some-split_first._rest here
    ∙ ap (λ (x : List TextByte). (t, first.column) ∷ starts_in others x) behind
