use Rattle.std.proofs.Common.{◌∙◌, refl}
use Rattle.std.specs.Cmp.Lexicographic.{slice_cmp}
use Rattle.std.specs.FinMap as finite
use Rattle.std.specs.FinMap.{get-empty}
use Rattle.std.specs.Ordering.{nat_cmp}
use Rattle.idl_server.proofs.ServerLemmas.{settled-blank}
use Rattle.idl_server.proofs.server.Server.new.Goals as goal

pub returns-clause-settled : goal.returns-clause-settled
returns-clause-settled c = λ told.
    settled-blank told _ (record {
      documents = c.new-documents.ensures.empty;
      files = λ name. (λ i. finite.get (c.new-session.ensures i).project.inputs.files name) ∙ get-empty (slice_cmp nat_cmp) name;
      roots = λ i. (c.new-session.ensures i).project.roots;
      tried = c.new-tried.ensures.empty;
    })

pub returns-clause-first : goal.returns-clause-first
returns-clause-first c = record {
  waits = refl;
  on_time = c.new-late.ensures.empty;
  blank = record {
    documents = c.new-documents.ensures.empty;
    files = λ name. (λ i. finite.get (c.new-session.ensures i).project.inputs.files name) ∙ get-empty (slice_cmp nat_cmp) name;
    roots = λ i. (c.new-session.ensures i).project.roots;
    tried = c.new-tried.ensures.empty;
  };
}
