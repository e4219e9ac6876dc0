use Rattle.std.proofs.Common.{rules, ◌≡◌, ◌∙◌, Some}
use Rattle.idl_env.specs.Facts.{answers, scopes_in}
use Rattle.idl_env.specs.Held.{closable}
use Rattle.idl_env.specs.declared.keys.key.Key.TheVariants as key
use Rattle.idl_env.proofs.ApartLemmas.{closable-innermost, entity_digest-is}
use Rattle.idl_env.proofs.env.Env.digests_of_innermost.Goals as goal

pub returns-clause-found : goal.returns-clause-found
returns-clause-found c =
    let s = c.in_ok-innermost.innermost.now in
    let outer = c.in_ok-innermost._outer.now in
    let scopes = scopes_in (answers c.args.self.now key.Cursor) in
    let found : closable scopes ≡ Some (s, outer) = search rules in
    (s, closable-innermost scopes s outer found, c.digest.ensures, c.entity_digest.ensures ∙ entity_digest-is s.path)
