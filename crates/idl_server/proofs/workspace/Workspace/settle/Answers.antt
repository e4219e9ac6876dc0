use Rattle.std.proofs.Common.{◌≡◌, ◌∙◌, ℕ, List, refl, subst, sym}
use Rattle.idl_loader.specs.Holding.{Holding}
use Rattle.idl_server.specs.Files.{AreFiled, told_by}
use Rattle.idl_server.proofs.CoveredLemmas.{rooted-fewer}
use Rattle.idl_server.proofs.WorkspaceLemmas.{all-stay, set-both, set-filed, set-same, tried-kept}
use Rattle.idl_server.proofs.workspace.Workspace.settle.Goals as goal

pub rounds-init : goal.rounds-init
rounds-init g c = record { set = set-same c.args.self.now; documents = refl; filed = λ are. are; rooted = λ are. are; stays = refl }

pub rounds-preserved-then-branch : goal.rounds-preserved-then-branch
rounds-preserved-then-branch g c =
    let told = g.L.PathLoader.told_of in
    let old = c.args.self.now in
    let start = c.rounds.self in
    let now = c.load_absent.new.self in
    let before = c.rounds.invariant in
    let loads = c.in_ok-load_absent.ensures.stays_open in
    let same : told_by start.folders (told c.rounds.loader) ≡ told_by old.folders (told c.args.loader.now) = λ i. told_by (before.set.folders i) (before.stays i) in
    record {
      set = set-both old start now before.set loads.set;
      documents = loads.documents ∙ before.documents;
      filed = λ are.
          subst (λ (t : List ℕ → Holding). AreFiled t now) same
          (c.in_ok-load_absent.ensures.filed (subst (λ (t : List ℕ → Holding). AreFiled t start) (sym same) (before.filed are)));
      rooted = λ are. rooted-fewer start now loads.roots loads.documents (before.rooted are);
      stays = c.load_absent.ensures.stays ∙ before.stays;
    }

pub rounds-preserved : goal.rounds-preserved
rounds-preserved g c =
    let told = g.L.PathLoader.told_of in
    let old = c.args.self.now in
    let start = c.rounds.self in
    let mid = c.load_absent.new.self in
    let now = c.adopt_one.new.self in
    let before = c.rounds.invariant in
    let loads = c.in_ok-load_absent.ensures.stays_open in
    let same : told_by start.folders (told c.rounds.loader) ≡ told_by old.folders (told c.args.loader.now) = λ i. told_by (before.set.folders i) (before.stays i) in
    record {
      set = set-both old mid now (set-both old start mid before.set loads.set) (set-filed mid now c.adopt_one.ensures.filed);
      documents = c.adopt_one.ensures.filed.documents ∙ loads.documents ∙ before.documents;
      filed = λ are.
          all-stay (told_by old.folders (told c.args.loader.now)) mid now c.adopt_one.ensures.filed
          (subst (λ (t : List ℕ → Holding). AreFiled t mid) same
          (c.in_ok-load_absent.ensures.filed (subst (λ (t : List ℕ → Holding). AreFiled t start) (sym same) (before.filed are))));
      rooted = λ are. c.in_ok-adopt_one.ensures.rooted (rooted-fewer start mid loads.roots loads.documents (before.rooted are));
      stays = c.load_absent.ensures.stays ∙ before.stays;
    }

-- nothing is left
pub returns-then-not-branch-clause-set : goal.returns-then-not-branch-clause-set
returns-then-not-branch-clause-set g c =
    let old = c.args.self.now in
    let mid = c.load_absent.new.self in
    let now = c.adopt_one.new.self in
    set-both old mid now (set-both old c.rounds.self mid c.rounds.invariant.set c.in_ok-load_absent.ensures.stays_open.set) (set-filed mid now c.adopt_one.ensures.filed)

pub returns-then-not-branch-clause-documents : goal.returns-then-not-branch-clause-documents
returns-then-not-branch-clause-documents g c = c.adopt_one.ensures.filed.documents ∙ c.in_ok-load_absent.ensures.stays_open.documents ∙ c.rounds.invariant.documents

pub returns-then-not-branch-clause-filed : goal.returns-then-not-branch-clause-filed
returns-then-not-branch-clause-filed g c = λ are.
    let told = g.L.PathLoader.told_of in
    let old = c.args.self.now in
    let start = c.rounds.self in
    let mid = c.load_absent.new.self in
    let before = c.rounds.invariant in
    let same : told_by start.folders (told c.rounds.loader) ≡ told_by old.folders (told c.args.loader.now) = λ i. told_by (before.set.folders i) (before.stays i) in
    all-stay (told_by old.folders (told c.args.loader.now)) mid c.adopt_one.new.self c.adopt_one.ensures.filed
    (subst (λ (t : List ℕ → Holding). AreFiled t mid) same
    (c.in_ok-load_absent.ensures.filed (subst (λ (t : List ℕ → Holding). AreFiled t start) (sym same) (before.filed are))))

pub returns-then-not-branch-clause-tried : goal.returns-then-not-branch-clause-tried
returns-then-not-branch-clause-tried g c =
    tried-kept c.load_absent.new.self c.adopt_one.new.self (c.in_ok-adopt_one.ensures.kept c.if-not-branch.true) (c.in_ok-load_absent.ensures.tried c.if-branch.false)

pub returns-then-not-branch-clause-rooted : goal.returns-then-not-branch-clause-rooted
returns-then-not-branch-clause-rooted g c = λ are.
    let loads = c.in_ok-load_absent.ensures.stays_open in
    c.in_ok-adopt_one.ensures.rooted (rooted-fewer c.rounds.self c.load_absent.new.self loads.roots loads.documents (c.rounds.invariant.rooted are))

pub returns-then-not-branch-clause-covered : goal.returns-then-not-branch-clause-covered
returns-then-not-branch-clause-covered g c = c.in_ok-adopt_one.ensures.covered c.if-not-branch.true

pub returns-then-not-branch-clause-stays : goal.returns-then-not-branch-clause-stays
returns-then-not-branch-clause-stays g c = c.load_absent.ensures.stays ∙ c.rounds.invariant.stays
