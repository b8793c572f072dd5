use Rattle.std.proofs.Common.{rules, ◌≡◌, sym, subst, refl, List, ℕ}
use Rattle.disk_model.specs.Steps.{reads, imaged}
use Rattle.disk_model.specs.Memory.{ImageAt, steps_to, fill_of}
use Rattle.disk_model.specs.ReadsBack.{Left-reads}
use Rattle.disk_model.proofs.Chosen.{Left-imaged}
use Rattle.disk_model.proofs.mem_disk.MemDisk.image.Goals as goal

pub returns-then-choice-eq1-clause-image : goal.returns-then-choice-eq1-clause-image
returns-then-choice-eq1-clause-image c =
    let d = c.args.self.now in
    let is : c.from.result ≡ reads d.past.first (steps_to d c.args.moment) = search rules in
    subst (λ (b : List ℕ). ImageAt d c.args.moment b) (sym is) (Left-reads (λ b. b ≡ d.past.first) d.past.first (steps_to d c.args.moment) refl)

pub returns-clause-image : goal.returns-clause-image
returns-clause-image c =
    let d = c.args.self.now in
    let is : c.from-2.result ≡ imaged (fill_of c.args.choice) d.past.first d.past.first (steps_to d c.args.moment) = search rules in
    subst (λ (b : List ℕ). ImageAt d c.args.moment b) (sym is) (Left-imaged (λ b. b ≡ d.past.first) (fill_of c.args.choice) d.past.first d.past.first (steps_to d c.args.moment) refl)
