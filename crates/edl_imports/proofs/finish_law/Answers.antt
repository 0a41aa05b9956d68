use Rattle.edl_imports.proofs.FinishLaws.{each_import_is_gathered, none_leads_to_itself}
use Rattle.edl_imports.proofs.finish_law.Goals as goal

pub returns : goal.returns
returns c = record {
  gathered = λ store paths root g h k f i there among. each_import_is_gathered store paths root g h k f i there among;
  apart = λ store paths root g h between k path. none_leads_to_itself store paths root g h between k path;
}
