-- One step stands for what the run has.
use Rattle.std.proofs.Common.{◌++◌, ◌∷◌, [], append-nil, ap, flat_map, length, reverse, sym, take, ◌∙◌}
use Rattle.idl_memo.proofs.run.Run.alone.Goals as goal

pub new-requires : goal.new-requires
new-requires g c =
    let f = g.B.Step.Step.logged c.args.head in
    let steps = c.listed.ensures ∙ ap reverse (c.in_ok-push.ensures.items ∙ ap (λ l. l ++ c.args.step ∷ []) c.new-steps.ensures) in
    c.requires ∙ ap length (sym (append-nil (f c.args.step)) ∙ ap (λ l. flat_map f (take 1 l)) (sym steps))

pub returns : goal.returns
returns g c =
    let f = g.B.Step.Step.logged c.args.head in
    let steps = c.listed.ensures ∙ ap reverse (c.in_ok-push.ensures.items ∙ ap (λ l. l ++ c.args.step ∷ []) c.new-steps.ensures) in
    c.new.ensures ∙ ap (λ l. flat_map f (take 1 l)) steps ∙ append-nil (f c.args.step)
