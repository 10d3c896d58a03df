use Rattle.translate.proofs.writing.lay_rest.Goals as goal

pub returns : goal.returns
returns c = λ ns a r e q. rw (c.put_trailer.ensures, c.lay_firsts.ensures, c.lay_capacities.ensures ns a r e q)
