-- the answers shown are those in the vectors
use Rattle.std.proofs.Common.{◌∙◌, ap, map}
use Rattle.hull_pool.specs.Answers.{WorkersValue}
use Rattle.hull_pool.proofs.Fronts.{shown_answers}
use Rattle.hull_pool.proofs.workers.Workers.into_parts.Goals as goal

pub returns-clause-answers : goal.returns-clause-answers
returns-clause-answers c =
    shown_answers c.self.inside.answers.items ∙ ap (λ (w : WorkersValue). map (λ a. a.answers) w.answers) c.self.view_is
