use Rattle.run_laws.proofs.ExampleLaws.{one_call_run, one_call_protected, loaded_again, stored_elsewhere, refused_wrongly}
use Rattle.run_laws.proofs.examples.Goals as goal

pub returns : goal.returns
returns c = record {
  run = one_call_run;
  protected = one_call_protected;
  loaded_again = loaded_again;
  stored_elsewhere = stored_elsewhere;
  refused_wrongly = refused_wrongly;
}
