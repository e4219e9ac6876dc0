use Rattle.std.proofs.Common.{ap, sym, ◌∙◌, ◌+◌, ◌<◌, arith, subst}
use Rattle.idl_unit.specs.Ending.{closes, edge, opens, is_semicolon, role}
use Rattle.idl_unit.proofs.EndingLemmas.{IsAt, is_at, IsDeclarationTo, declaration-through, declaration-before, declaration-open, declaration-close, declaration-step, not_opens, not_closes, not_semicolon, edge_open, edge_close, edge_semicolon}
use Rattle.idl_unit.proofs.ending.declaration_len.Goals as goal
use Rattle.idl_unit.proofs.ending.declaration_len.Goals.{in-OpenBrace, in-CloseBrace+else-depth-eq0, in-Semicolon+else-depth-eq0-2, in_default}

pub returns-then-depth-eq0-clause-cut : goal.returns-then-depth-eq0-clause-cut
returns-then-depth-eq0-clause-cut c =
    let tokens = c.args.tokens.now in
    let i = c.loop-index.index in
    let t = c.index-tokens-index.result in
    let r = edge_close (role t) (sym c.edge_of.ensures ∙ c.in-CloseBrace.is) in
    (declaration-before tokens i t c.loop-index.depth c.requires.rule (is_at tokens i t (omega arith) c.index-tokens-index.is) c.loop-index.invariant c.if-depth-eq0.true (ap closes r)).0

pub returns-then-depth-eq0-clause-some : goal.returns-then-depth-eq0-clause-some
returns-then-depth-eq0-clause-some c =
    let tokens = c.args.tokens.now in
    let i = c.loop-index.index in
    let t = c.index-tokens-index.result in
    let r = edge_close (role t) (sym c.edge_of.ensures ∙ c.in-CloseBrace.is) in
    (declaration-before tokens i t c.loop-index.depth c.requires.rule (is_at tokens i t (omega arith) c.index-tokens-index.is) c.loop-index.invariant c.if-depth-eq0.true (ap closes r)).1

pub returns-then-depth-eq0-2-clause-cut : goal.returns-then-depth-eq0-2-clause-cut
returns-then-depth-eq0-2-clause-cut c =
    let tokens = c.args.tokens.now in
    let i = c.loop-index.index in
    let t = c.index-tokens-index.result in
    let r = edge_semicolon (role t) (sym c.edge_of.ensures ∙ c.in-Semicolon.is) in
    declaration-through tokens i t c.loop-index.depth c.requires.rule (is_at tokens i t (omega arith) c.index-tokens-index.is) c.loop-index.invariant c.if-depth-eq0-2.true (ap closes r) (ap opens r) (ap is_semicolon r)

pub loop-index-preserved : goal.loop-index-preserved
loop-index-preserved c =
    let tokens = c.args.tokens.now in
    let i = c.loop-index.index in
    let t = c.index-tokens-index.result in
    let d = c.loop-index.invariant in
    let r = sym c.edge_of.ensures in
    let at : IsAt tokens i t = is_at tokens i t (omega arith) c.index-tokens-index.is in
    elim c.match-edge_of.branch [
      | in-OpenBrace w ↦ subst (IsDeclarationTo tokens (i + 1)) (sym w.depth-is) (declaration-open tokens i t c.loop-index.depth c.requires.rule at d (edge_open (role t) (r ∙ w.in-OpenBrace.is)))
      | in-CloseBrace+else-depth-eq0 w ↦
          let deep : 0 < c.loop-index.depth = omega arith in
          subst (IsDeclarationTo tokens (i + 1)) (sym w.depth-is) (declaration-close tokens i t c.loop-index.depth c.requires.rule at d deep (edge_close (role t) (r ∙ w.in-CloseBrace.is)))
      | in-Semicolon+else-depth-eq0-2 w ↦
          let is = edge_semicolon (role t) (r ∙ w.in-Semicolon.is) in
          subst (IsDeclarationTo tokens (i + 1)) (sym w.depth-is)
          (declaration-step tokens i t c.loop-index.depth c.requires.rule at d (ap closes is) (ap opens is) (λ e. absurd (w.if-depth-eq0-2.false e)))
      | in_default w ↦
          subst (IsDeclarationTo tokens (i + 1)) (sym w.depth-is)
          (declaration-step tokens i t c.loop-index.depth c.requires.rule at d
          (not_closes _ (λ e. w.in_default.not-CloseBrace (c.edge_of.ensures ∙ ap edge e))) (not_opens _ (λ e. w.in_default.not-OpenBrace (c.edge_of.ensures ∙ ap edge e)))
          (λ z. not_semicolon _ (λ e. w.in_default.not-Semicolon (c.edge_of.ensures ∙ ap edge e))))
    ]
