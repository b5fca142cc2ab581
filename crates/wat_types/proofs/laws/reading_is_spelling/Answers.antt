use Rattle.wat_types.proofs.Joins.{reads_module, reading_spells, spelling_reads, spelling_is_one}
use Rattle.wat_types.proofs.laws.reading_is_spelling.Goals as goal

pub returns-clause-same : goal.returns-clause-same
returns-clause-same c =
    let law = reads_module c.one_tiling.ensures.one c.all_shown.ensures.all_some c.shown.ensures.one in
    λ s fs u r p. (reading_spells law s fs u r p, spelling_reads law s fs r p)

pub returns-clause-one : goal.returns-clause-one
returns-clause-one c =
    let law = reads_module c.one_tiling.ensures.one c.all_shown.ensures.all_some c.shown.ensures.one in
    λ text fs gs u h k. spelling_is_one law text fs gs h k
