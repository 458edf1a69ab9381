use Rattle.rows.proofs.number_of.Goals as goal

pub returns-in-Seam : goal.returns-in-Seam
returns-in-Seam c = rw c.in-Seam.is
