use Rattle.std.proofs.Common.{◌≡◌, ◌<◌, ◌≤◌, ◌∙◌, true, ap, rules, length}
use Rattle.idl_session.specs.Streams.{Fed}
use Rattle.idl_session.proofs.StreamLemmas.{fed-end, fed-some}
use Rattle.idl_session.proofs.feed.Feed.fill.Goals.{else-self-via-then-self+else-not-self, else-self-via-else-self}
use Rattle.idl_session.proofs.feed.Feed.fill.Goals as goal

pub returns-else-self-clause-end : goal.returns-else-self-clause-end
returns-else-self-clause-end g c =
    elim c.else-self.branch [
      | else-self-via-then-self+else-not-self w ↦
          let ended : c.args.self.now.ended ≡ true = search rules in
          λ none. fed-end (g.S.Source.remaining c.args.source.now) c.args.self.now ended none
      | else-self-via-else-self w ↦
          let less : c.self.inside.start < c.self.inside.end = search rules in
          let within : c.self.inside.end ≤ length c.self.inside.bytes = search rules in
          λ none. absurd (fed-some c.self.inside.bytes c.self.inside.start c.self.inside.end less within (ap (λ (fed : Fed). fed.bytes) c.self.view_is ∙ none))
    ]
