use Rattle.explain.proofs.Closing.{leads_are_told, strict_leads_are_told}
use Rattle.explain.proofs.laws_of_explanations.leading_laws.Goals as goal

pub returns : goal.returns
returns c = record { declared = leads_are_told; strict = strict_leads_are_told }
