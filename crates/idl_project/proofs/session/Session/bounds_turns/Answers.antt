use Rattle.std.proofs.Common.{All, [], List, ℕ, subst}
use Rattle.std.proofs.lemmas.List.Elements.{All-weaker}
use Rattle.std.specs.Map.{keys_of}
use Rattle.idl_prep.specs.Root.{expanded}
use Rattle.idl_sources.specs.idl_root.Places.{root_pieces}
use Rattle.idl_sources.specs.idl_root.Turns.{FitsU64}
use Rattle.idl_sources.specs.idl_root.idl_root_blocks.Places.{AreStandingOver}
use Rattle.idl_inputs.specs.Bank.{bank_of}
use Rattle.idl_project.specs.UpToDate.{State}
use Rattle.idl_project.proofs.RootLemmas.{within-held}
use Rattle.idl_project.proofs.session.Session.bounds_turns.Goals as goal

pub returns-clause-within : goal.returns-clause-within
returns-clause-within c =
    subst (λ (s : State). All (λ root. FitsU64 (expanded root (bank_of s.project.inputs)).0) s.project.roots) c.self.view_is
    (within-held (bank_of c.self.inside.bank) c.self.inside.roots c.self.invariant.kept)

pub returns-clause-blocks : goal.returns-clause-blocks
returns-clause-blocks c =
    let bank = bank_of c.self.inside.bank in
    subst (λ (s : State). All (λ root. AreStandingOver [] (root_pieces (expanded root (bank_of s.project.inputs)).0)) s.project.roots) c.self.view_is
    (All-weaker (λ (root : List ℕ). FitsU64 (expanded root bank).0) (λ (root : List ℕ). AreStandingOver [] (root_pieces (expanded root bank).0))
    (λ root within. c.blocks-2.ensures (expanded root bank).0 within) (keys_of c.self.inside.roots)
    (within-held bank c.self.inside.roots c.self.invariant.kept))
