use Rattle.std.proofs.Common.{◌∙◌}
use Rattle.std.proofs.lemmas.List.{length-set}
use Rattle.sheet.proofs.Filling.{still_blank}
use Rattle.sheet.proofs.passages.Passages.push.Goals as goal

pub invariant_of-self-clause-full : goal.invariant_of-self-clause-full
invariant_of-self-clause-full c = length-set c.args.self.now.places c.args.self.now.count c.args.passage ∙ c.args.self.now.full

pub invariant_of-self-clause-blank : goal.invariant_of-self-clause-blank
invariant_of-self-clause-blank c = still_blank _ c.args.self.now.places c.args.self.now.count c.args.passage c.args.self.now.blank
