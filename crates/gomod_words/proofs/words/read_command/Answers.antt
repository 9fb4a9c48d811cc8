use Rattle.gomod_words.proofs.words.read_command.Goals as goal

pub returns-in-Fmt-clause-fault : goal.returns-in-Fmt-clause-fault
returns-in-Fmt-clause-fault c = rw c.in-Fmt.is c.read_fmt.ensures.fault

pub returns-in-Edit-clause-fault : goal.returns-in-Edit-clause-fault
returns-in-Edit-clause-fault c = rw c.in-Edit.is c.read_edit.ensures.fault

pub returns-in-Versions-clause-fault : goal.returns-in-Versions-clause-fault
returns-in-Versions-clause-fault c = rw c.in-Versions.is c.read_versions.ensures.fault

pub returns-in-Graph-clause-fault : goal.returns-in-Graph-clause-fault
returns-in-Graph-clause-fault c = rw c.in-Graph.is c.read_graph.ensures.fault

pub returns-in-List-clause-fault : goal.returns-in-List-clause-fault
returns-in-List-clause-fault c = rw c.in-List.is c.read_list.ensures.fault

pub returns-in-Chain-clause-fault : goal.returns-in-Chain-clause-fault
returns-in-Chain-clause-fault c = rw c.in-Chain.is c.read_chain.ensures.fault
